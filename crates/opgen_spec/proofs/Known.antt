-- A key that a document without a fault has is one that its version and its kind have.
use Rattle.std.proofs.Common.{◌≡◌, ℕ, ◌+◌, ◌<◌, ◌&&◌, not, Bool, true, false, cond, List, length, get_or, Option, Ordering, Less, Equal, Greater, Some, None, is_some, refl, ap, sym, subst, ◌∙◌, unwrap_or}
use Rattle.std.specs.List.{position_from, list_all}
use Rattle.std.proofs.lemmas.List.Sums.{AllPass-from_list_all}
use Rattle.std.specs.Ordering.{nat_cmp, match_ordering}
use Rattle.std.specs.Cmp.Lexicographic.{slice_cmp}
use Rattle.std.specs.Str.{bytes_eq}
use Rattle.std.proofs.lemmas.Bool.{and_parts, not-true}
use Rattle.std.proofs.lemmas.List.Folds.{Any-from_list_any}
use Rattle.std.proofs.lemmas.Map.Lookups.{exact_bytes}
use Rattle.toml.specs.Data.{Data, Members, no_members, member, get_member}
use Rattle.opgen_operator.specs.declared.kind.Kind.{Kind}
use Rattle.opgen_spec.specs.declared.fault.SpecFault.TheVariants as fault
use Rattle.opgen_document.specs.declared.key.Key.{Key}
use Rattle.opgen_document.specs.declared.key.Key.TheVariants as key
use Rattle.opgen_document.specs.Document.{names, value_at, version_of}
use Rattle.opgen_document.specs.Keys.{document_keys, key_name, shared_stand, may_be}
use Rattle.opgen_entries.specs.Stands.{may_stand, is_known}
use Rattle.opgen_entries.specs.kinds.{kind_of, entry}
use Rattle.opgen_spec.proofs.Fine.{AreFine, map_none, is_of_line}

-- a name that is there passes a test that no name fails
known : (p : List ℕ → Bool) (ms : Members) (name : List ℕ) (n : ℕ) → position_from (λ m. not (p m)) n (names ms) ≡ None
    → is_some (get_member name ms) ≡ true → p name ≡ true
known p no_members name n none there = cc
known p (member l d ms) name n none there =
    go (p l) refl none (slice_cmp nat_cmp name l) refl there (λ none there. known p ms name (n + 1) none there)
  where
    go : (b : Bool) → p l ≡ b → cond (not b) (Some n) (position_from (λ m. not (p m)) (n + 1) (names ms)) ≡ None → (o : Ordering)
        → slice_cmp nat_cmp name l ≡ o → is_some (match_ordering o (get_member name ms) (Some d) (get_member name ms)) ≡ true
        → (position_from (λ m. not (p m)) (n + 1) (names ms) ≡ None → is_some (get_member name ms) ≡ true → p name ≡ true)
        → p name ≡ true
    go false e none o c there later = cc
    go true e none Less c there later = later none there
    go true e none Equal c there later = ap p (exact_bytes name l c) ∙ e
    go true e none Greater c there later = later none there

-- no other key of documents has the name of this one
abbrev pub IsOnly : Key → Type 0
IsOnly k = (other : Key) → is_of_line other ≡ false → bytes_eq (key_name other) (key_name k) ≡ true → other ≡ k

pub compressor_key : IsOnly key.Compressor
compressor_key key.Compressor own h = refl
compressor_key _ own h = cc

pub signed_key : IsOnly key.Signed
signed_key key.Signed own h = refl
signed_key key.InputSigned own h = cc
signed_key _ own h = cc

pub width_key : IsOnly key.OutWidth
width_key key.OutWidth own h = refl
width_key _ own h = cc

pub rounding_key : IsOnly key.Rounding
rounding_key key.Rounding own h = refl
rounding_key _ own h = cc

pub overflow_key : IsOnly key.Overflow
overflow_key key.Overflow own h = refl
overflow_key _ own h = cc

pub recurrence_key : IsOnly key.Recurrence
recurrence_key key.Recurrence own h = refl
recurrence_key _ own h = cc

pub out_lsb_key : IsOnly key.OutLsb
out_lsb_key key.OutLsb own h = refl
out_lsb_key _ own h = cc

-- the keys of documents are none of lines
own_keys : list_all (λ k. not (is_of_line k)) document_keys ≡ true
unfolding document_keys
own_keys = refl

own_at : (i : ℕ) (other : Key) → i < length document_keys → get_or document_keys i other ≡ other → is_of_line other ≡ false
own_at i other lt at =
    subst (λ k. is_of_line k ≡ false) at (not-true (is_of_line (get_or document_keys i other))
    (AllPass-from_list_all (λ k. not (is_of_line k)) document_keys own_keys i other lt))

-- a key that is there may be there
pub allowed : (ms : Members) (one : Kind) (k : Key) → AreFine ms → kind_of ms ≡ Some one → IsOnly k → shared_stand k ≡ None
    → is_some (value_at ms k) ≡ true → may_be ((entry one).stand (version_of ms) k) ≡ true
allowed ms one k f e only apart there =
    let stands : List ℕ → Bool = is_known document_keys (version_of ms) (kind_of ms) in
    let none = map_none (fault.UnknownKey 0) (position_from (λ name. not (stands name)) 0 (names ms)) f.unknown in
    let listed : stands (key_name k) ≡ true = known stands ms (key_name k) 0 none there in
    let (i, other, lt, at, both) = Any-from_list_any
    (λ other. may_stand (version_of ms) (kind_of ms) other && bytes_eq (key_name other) (key_name k)) document_keys listed in
    let (may, named) = and_parts (may_stand (version_of ms) (kind_of ms) other) (bytes_eq (key_name other) (key_name k)) both in
    let own = own_at i other lt at in
    let mine : may_stand (version_of ms) (Some one) k ≡ true =
    ap (λ o. may_stand (version_of ms) o k) (sym e) ∙ (ap (may_stand (version_of ms) (kind_of ms)) (sym (only other own named)) ∙ may) in
    ap (λ shared. may_be (unwrap_or shared ((entry one).stand (version_of ms) k))) (sym apart) ∙ mine

-- a key that may not be there is not there
pub not_there : (ms : Members) (one : Kind) (k : Key) → AreFine ms → kind_of ms ≡ Some one → IsOnly k → shared_stand k ≡ None
    → may_be ((entry one).stand (version_of ms) k) ≡ false → value_at ms k ≡ None
not_there ms one k f e only apart absent = go (value_at ms k) refl
  where
    go : (o : Option Data) → value_at ms k ≡ o → value_at ms k ≡ None
    go None none = none
    go (Some d) some =
        let no : false ≡ true = sym absent ∙ allowed ms one k f e only apart (ap is_some some) in
        cc
