-- Keys that only the fourth version has, in a document without a fault: how outputs are rounded and overflow, and other keys whose values
-- are one of two words.
use Rattle.std.proofs.Common.{◌≡◌, ℕ, ◌≤◌, ◌⊎◌, ⊎_elim, ◌||◌, not, Bool, true, false, List, length, Option, Some, None, is_some, is_none, inl, inr, refl, ap, sym, subst, ◌∙◌, option_map, option_and_then, arith, if◌then◌else◌}
use Rattle.std.specs.Prelude.{pos, codes}
use Rattle.std.specs.Option.{option_map_or}
use Rattle.std.specs.Str.{bytes_eq}
use Rattle.std.proofs.lemmas.Bool.{or_parts}
use Rattle.std.proofs.lemmas.Slice.Eq.{bytes_eq-Decides}
use Rattle.toml.specs.Data.{Data, string, Members, as_str}
use Rattle.opgen_num.specs.declared.mode.Overflow.{Overflow}
use Rattle.opgen_num.specs.declared.mode.Overflow.TheVariants.{Saturate, Wrap}
use Rattle.opgen_operator.specs.declared.kind.Kind.{Kind}
use Rattle.opgen_operator.specs.declared.kind.Kind.TheVariants as kind
use Rattle.opgen_operator.specs.Valid.{IsOverflow}
use Rattle.opgen_document.specs.declared.key.Key.{Key}
use Rattle.opgen_document.specs.declared.key.Key.TheVariants as key
use Rattle.opgen_document.specs.declared.key.Version.{Version}
use Rattle.opgen_document.specs.declared.key.Version.TheVariants.{First, Second, Third, Fourth}
use Rattle.opgen_document.specs.Document.{value_at, text_in, text_at, count_at, optional_count_at, rounding_named, rounding_at, rounding_name, overflow_at, IsRoundingAsWritten, IsOverflowAsWritten, version_of, since_fourth}
use Rattle.opgen_document.specs.Keys.{may_be, shared_stand}
use Rattle.opgen_document.specs.Ranges.{word_outside, overflow_outside}
use Rattle.opgen_document.proofs.Values.{IsText, text_stands}
use Rattle.opgen_entries.specs.kinds.{kind_of, entry}
use Rattle.opgen_spec.proofs.Fine.{AreFine, typed, there_inside, own_range}
use Rattle.opgen_spec.proofs.Known.{IsOnly, allowed, not_there, rounding_key, overflow_key}
use Rattle.opgen_spec.proofs.Made.{not_rounded}
use Rattle.opgen_spec.proofs.Versions.{fourth_is_four, fourth_or, only_fourth}

-- a text that is one of two words
one_of : (first second text : List ℕ) → word_outside first second text ≡ None → (text ≡ first) ⊎ (text ≡ second)
one_of first second text h = go (bytes_eq text first) refl (bytes_eq text second) refl h
  where
    go : (a : Bool) → bytes_eq text first ≡ a → (b : Bool) → bytes_eq text second ≡ b
        → (if a || b then None else Some (pos (length text))) ≡ None → (text ≡ first) ⊎ (text ≡ second)
    go true is b other h = inl ((bytes_eq-Decides text first).0 is)
    go false is true other h = inr ((bytes_eq-Decides text second).0 other)
    go false is false other h = cc

-- a key that only the fourth version has, and whose value is one of two words
pub record IsWord (one : Kind) (k : Key) (first second : List ℕ) : Type 0 where
  pub only : IsOnly k
  pub apart : shared_stand k ≡ None
  pub stands : (version : Version) → may_be ((entry one).stand version k) ≡ true → version ≡ Fourth
  pub range : (version : Version) → may_be ((entry one).stand version k) ≡ true → (ms : Members)
      → (entry one).key_outside ms k ≡ word_outside first second (text_at ms k)

pub record HasWord (ms : Members) (k : Key) (first second : List ℕ) : Type 0 where
  pub fourth : version_of ms ≡ Fourth
  pub word : (value_at ms k ≡ Some (string first)) ⊎ (value_at ms k ≡ Some (string second))

pub word_cases : (ms : Members) (one : Kind) (k : Key) (first second : List ℕ) → AreFine ms → kind_of ms ≡ Some one
    → IsText (value_at ms k) → IsWord one k first second → (value_at ms k ≡ None) ⊎ HasWord ms k first second
word_cases ms one k first second f e text is = go (value_at ms k) refl
  where
    go : (o : Option Data) → value_at ms k ≡ o → (value_at ms k ≡ None) ⊎ HasWord ms k first second
    go None none = inl none
    go (Some d) some =
        let may = allowed ms one k f e is.only is.apart (ap is_some some) in
        let there : is_none (value_at ms k) ≡ false = ap is_none some in
        let ranged : option_and_then (λ _. word_outside first second (text_at ms k)) (value_at ms k) ≡ None =
        ap (λ x. option_and_then (λ _. x) (value_at ms k)) (sym (is.range (version_of ms) may ms)) ∙ own_range ms one k f e is.apart in
        let stands = text_stands (value_at ms k) there text in
        inr (record {
          fourth = is.stands (version_of ms) may;
          word = ⊎_elim (λ (same : text_at ms k ≡ first). inl (stands ∙ ap (λ t. Some (string t)) same))
              (λ (same : text_at ms k ≡ second). inr (stands ∙ ap (λ t. Some (string t)) same))
              (one_of first second (text_at ms k) (there_inside (value_at ms k) (word_outside first second (text_at ms k)) there ranged));
        })

-- how outputs are rounded: no document without a fault chooses it
not_before : (version : Version) → (version ≡ Fourth → ⊥) → may_be (since_fourth version) ≡ false
not_before First other = refl
not_before Second other = refl
not_before Third other = refl
not_before Fourth other = absurd (other refl)

no_rounding_of : (one : Kind) (version : Version) → (version ≡ Fourth → ⊥) → may_be ((entry one).stand version key.Rounding) ≡ false
unfolding entry
no_rounding_of kind.Scale version other = not_before version other
no_rounding_of kind.Fir version other = not_before version other
no_rounding_of kind.Multiply version other = not_before version other
no_rounding_of kind.Divide version other = refl
no_rounding_of kind.Root version other = refl
no_rounding_of kind.Mcm version other = refl
no_rounding_of kind.Constdiv version other = refl
no_rounding_of kind.Poly version other = refl
no_rounding_of kind.Tfir version other = not_before version other
no_rounding_of kind.Sop version other = not_before version other

-- how they overflow
overflow_stands : (one : Kind) (version : Version) → may_be ((entry one).stand version key.Overflow) ≡ true → version ≡ Fourth
unfolding entry
overflow_stands kind.Scale version may = only_fourth version may
overflow_stands kind.Fir version may = only_fourth version may
overflow_stands kind.Multiply version may = only_fourth version may
overflow_stands kind.Divide version may = only_fourth version may
overflow_stands kind.Root version may = cc
overflow_stands kind.Mcm version may = cc
overflow_stands kind.Constdiv version may = cc
overflow_stands kind.Poly version may = only_fourth version may
overflow_stands kind.Tfir version may = only_fourth version may
overflow_stands kind.Sop version may = only_fourth version may

overflow_range : (one : Kind) (version : Version) → may_be ((entry one).stand version key.Overflow) ≡ true → (ms : Members)
    → (entry one).key_outside ms key.Overflow ≡ overflow_outside ms
unfolding entry
overflow_range kind.Scale version may ms = refl
overflow_range kind.Fir version may ms = refl
overflow_range kind.Multiply version may ms = refl
overflow_range kind.Divide version may ms = refl
overflow_range kind.Root version may ms = cc
overflow_range kind.Mcm version may ms = cc
overflow_range kind.Constdiv version may ms = cc
overflow_range kind.Poly version may ms = refl
overflow_range kind.Tfir version may ms = refl
overflow_range kind.Sop version may ms = refl

-- a text that does not stand beside the want of a width
text_alone : (none : Bool) (o : Option Data) → option_map_or (λ d. not (is_some (as_str d)) || none) o false ≡ false → IsText o
text_alone none None h = refl
text_alone none (Some d) h = ap (λ b. b || false) (or_parts (not (is_some (as_str d))) none h).0

beside : (none : Bool) (o : Option Data) → is_some o ≡ true → option_map_or (λ d. not (is_some (as_str d)) || none) o false ≡ false
    → none ≡ false
beside none None there h = cc
beside none (Some d) there h = (or_parts (not (is_some (as_str d))) none h).1

width_given : (ms : Members) → is_none (value_at ms key.OutWidth) ≡ false → is_some (optional_count_at ms key.OutWidth) ≡ true
width_given ms there = go (value_at ms key.OutWidth) there
  where
    go : (o : Option Data) → is_none o ≡ false → is_some (option_map (λ _. count_at ms key.OutWidth) o) ≡ true
    go None there = cc
    go (Some d) there = refl

abbrev overflow_in : Option Data → Overflow
overflow_in o = if bytes_eq (text_in o) (codes "wrap") then Wrap else Saturate

module _ (ms : Members) (one : Kind) (f : AreFine ms) (e : kind_of ms ≡ Some one) where
  no_rounding_key : value_at ms key.Rounding ≡ None
  no_rounding_key =
      ⊎_elim (λ (is : version_of ms ≡ Fourth). not_rounded ms f is)
      (λ (other : version_of ms ≡ Fourth → ⊥). not_there ms one key.Rounding f e rounding_key refl (no_rounding_of one (version_of ms) other))
      (fourth_or (version_of ms))

  pub no_rounding : rounding_at ms ≡ None
  no_rounding = ap (λ o. rounding_named (text_in o)) no_rounding_key

  pub rounding_written : IsRoundingAsWritten ms (rounding_at ms)
  rounding_written = no_rounding_key ∙ sym (ap (option_map (λ r. string (rounding_name r))) no_rounding)

  overflow_cases : (value_at ms key.Overflow ≡ None) ⊎ HasWord ms key.Overflow (codes "saturate") (codes "wrap")
  overflow_cases =
      word_cases ms one key.Overflow (codes "saturate") (codes "wrap") f e
      (text_alone (is_none (value_at ms key.OutWidth)) (value_at ms key.Overflow) (typed ms key.Overflow f refl))
      (record { only = overflow_key; apart = refl; stands = overflow_stands one; range = overflow_range one })

  pub overflow_written : IsOverflowAsWritten ms (overflow_at ms)
  overflow_written =
      ⊎_elim (λ (none : value_at ms key.Overflow ≡ None). subst (IsOverflowAsWritten ms) (sym (ap overflow_in none)) (inl none))
      (λ (h : HasWord ms key.Overflow (codes "saturate") (codes "wrap")).
      ⊎_elim (λ (is : value_at ms key.Overflow ≡ Some (string (codes "saturate"))). subst (IsOverflowAsWritten ms) (sym (ap overflow_in is)) (inr is))
      (λ (is : value_at ms key.Overflow ≡ Some (string (codes "wrap"))). subst (IsOverflowAsWritten ms) (sym (ap overflow_in is)) is) h.word)
      overflow_cases

  -- values wrap only in version 4, in a width that is chosen
  wraps : version_of ms ≡ Fourth → value_at ms key.Overflow ≡ Some (string (codes "wrap"))
      → (4 ≤ count_at ms key.Version) × (is_some (optional_count_at ms key.OutWidth) ≡ true)
  wraps fourth is =
      let four = fourth_is_four ms f fourth in (
        omega (arith, four),
        width_given ms (beside (is_none (value_at ms key.OutWidth)) (value_at ms key.Overflow) (ap is_some is) (typed ms key.Overflow f refl)),
      )

  abbrev IsValid : Overflow → Type 0
  IsValid overflow = IsOverflow (count_at ms key.Version) (optional_count_at ms key.OutWidth) overflow

  pub overflow_valid : IsOverflow (count_at ms key.Version) (optional_count_at ms key.OutWidth) (overflow_at ms)
  overflow_valid =
      ⊎_elim (λ (none : value_at ms key.Overflow ≡ None). subst IsValid (sym (ap overflow_in none)) tt)
      (λ (h : HasWord ms key.Overflow (codes "saturate") (codes "wrap")).
      ⊎_elim (λ (is : value_at ms key.Overflow ≡ Some (string (codes "saturate"))). subst IsValid (sym (ap overflow_in is)) tt)
      (λ (is : value_at ms key.Overflow ≡ Some (string (codes "wrap"))). subst IsValid (sym (ap overflow_in is)) (wraps h.fourth is)) h.word)
      overflow_cases
