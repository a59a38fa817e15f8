-- The tree of a text, the keys of a table, and the items of an array.
use Rattle.std.proofs.Common.{◌≡◌, ℕ, suc, ◌+◌, ◌<◌, drop, get_or, List, [], ◌∷◌, ◌&&◌, Bool, true, false, cond, find, Option, Some, ℤ, sym, ◌∙◌, length, map, String, Global, string_bytes, IsUtf8, refl, ap, eq-eqb}
use Rattle.std.specs.List.{list_all}
use Rattle.std.specs.Map.{keys_of}
use Rattle.std.proofs.lemmas.Str.{utf8_valid_len-IsUtf8}
use Rattle.toml.specs.declared.value.Value.{Value}
use Rattle.std.proofs.lemmas.List.{drop_more}
use Rattle.toml.specs.Data.{Data, item}
use Rattle.toml.specs.View.{view, items_view, members_view}
use Rattle.toml.specs.Parse.{parse_document}
use Rattle.opgen_document.specs.Document.{tree, names, list_of}

pub tree-of_text : (bytes : List ℕ) → IsUtf8 bytes → tree bytes ≡ parse_document bytes
tree-of_text bytes text = rw (eq-eqb _ _ (utf8_valid_len-IsUtf8 bytes text)) refl

pub names-view : (es : List (String Global × Value)) → map string_bytes (keys_of es) ≡ names (members_view es)
names-view [] = refl
names-view (e ∷ es) = ap (λ rest. string_bytes e.0 ∷ rest) (names-view es)

pub items-list : (vs : List Value) → list_of (items_view vs) ≡ map view vs
items-list [] = refl
items-list (v ∷ vs) = ap (λ rest. view v ∷ rest) (items-list vs)

pub all-items : (p : Data → Bool) (vs : List Value) → list_all (λ v. p (view v)) vs ≡ list_all p (list_of (items_view vs))
all-items p [] = refl
all-items p (v ∷ vs) = ap (λ rest. p (view v) && rest) (all-items p vs)

pub items-length : (vs : List Value) → length (list_of (items_view vs)) ≡ length vs
items-length [] = refl
items-length (v ∷ vs) = ap suc (items-length vs)

-- the items from a place on
pub cut : (vs : List Value) (i : ℕ) (v : Value) → i < length vs → items_view (drop i vs)
    ≡ item (view (get_or vs i v)) (items_view (drop (i + 1) vs))
cut vs i v lt = ap items_view (drop_more vs i v lt)

-- the first number that passes a test stands at a place, or after it
pub find_here : (p : ℤ → Bool) (f : Data → ℤ) (vs : List Value) (i : ℕ) (v : Value) → i < length vs → v ≡ get_or vs i v
    → (answer : Option ℤ) → find p (map f (list_of (items_view (drop i vs)))) ≡ answer → p (f (view v)) ≡ true → Some (f (view v)) ≡ answer
find_here p f vs i v lt here answer so_far passes =
    let first = ap (λ items. find p (map f (list_of items))) (cut vs i v lt) in
    let at : p (f (view (get_or vs i v))) ≡ true = rw (← here) passes in
    ap (λ w. Some (f (view w))) here ∙ sym (first ∙ ap (λ b. cond b (Some (f (view (get_or vs i v))))
    (find p (map f (list_of (items_view (drop (i + 1) vs)))))) at) ∙ so_far

pub find_past : (p : ℤ → Bool) (f : Data → ℤ) (vs : List Value) (i : ℕ) (v : Value) → i < length vs → v ≡ get_or vs i v
    → (answer : Option ℤ) → find p (map f (list_of (items_view (drop i vs)))) ≡ answer → p (f (view v)) ≡ false
    → find p (map f (list_of (items_view (drop (i + 1) vs)))) ≡ answer
find_past p f vs i v lt here answer so_far fails =
    let first = ap (λ items. find p (map f (list_of items))) (cut vs i v lt) in
    let at : p (f (view (get_or vs i v))) ≡ false = rw (← here) fails in
    sym (first ∙ ap (λ b. cond b (Some (f (view (get_or vs i v)))) (find p (map f (list_of (items_view (drop (i + 1) vs)))))) at) ∙ so_far
