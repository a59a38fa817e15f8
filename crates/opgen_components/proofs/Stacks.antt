-- Lists of places that go upwards, and their last.
use Rattle.std.proofs.Common.{◌≡◌, ℕ, ◌+◌, ◌-◌, ◌<◌, ◌≤◌, List, [], ◌∷◌, ◌++◌, length, get_or, take, refl, sym, ap, ◌∙◌, inl, inr, arith}
use Rattle.std.specs.Prelude.{Contains}
use Rattle.std.proofs.lemmas.Bool.{cases_lt}
use Rattle.std.proofs.lemmas.List.{get_or_append_left, get_or_push, length_push, take_more, take_all}
use Rattle.std.proofs.lemmas.List.Elements.{Contains-get_or}
use Rattle.std.proofs.lemmas.List.Quantifiers.{all_pairs_push}
use Rattle.std.proofs.lemmas.Option.{slice_get_within, get_or_from_slice_get}
use Rattle.opgen_components.specs.Walk.{IsAscending, IsTop}

pub ascending-push : (xs : List ℕ) (x : ℕ) → IsAscending xs → ((b : ℕ) → Contains xs b → b < x) → IsAscending (xs ++ x ∷ [])
ascending-push xs x h k = all_pairs_push (λ a b. a < b) xs x h (λ i d l. k (get_or xs i d) (Contains-get_or xs i d l))

pub ascending-front : (xs : List ℕ) (x : ℕ) → IsAscending (xs ++ x ∷ []) → IsAscending xs
ascending-front xs x h = λ i j d l m.
    let a = h i j d l (omega (arith, length_push xs x, m)) in
    let e = get_or_append_left xs (x ∷ []) d i (omega (arith, l, m)) in
    let f = get_or_append_left xs (x ∷ []) d j m in
    omega (arith, a, e, f)

pub ascending-below : (xs : List ℕ) (x : ℕ) → IsAscending (xs ++ x ∷ []) → (b : ℕ) → Contains xs b → b < x
ascending-below xs x h b c =
    let a = h c.0 (length xs) b c.1 (omega (arith, length_push xs x)) in
    let e = get_or_append_left xs (x ∷ []) b c.0 c.1 in
    let f = get_or_push xs x b (length xs) refl in
    omega (arith, a, e, f, c.2)

pub top-within : (xs : List ℕ) (x : ℕ) → IsTop xs x → length xs - 1 < length xs
top-within xs x h = slice_get_within xs (length xs - 1) x h

pub top-split : (xs : List ℕ) (x : ℕ) → IsTop xs x → xs ≡ take (length xs - 1) xs ++ x ∷ []
top-split xs x h =
    let l = top-within xs x h in
    let n : length xs - 1 + 1 ≡ length xs = omega (arith, l) in
    let e = take_more xs (length xs - 1) 0 l in
    let f = get_or_from_slice_get xs (length xs - 1) x 0 h in
    sym (take_all (length xs - 1 + 1) xs (omega arith)) ∙ e ∙ ap (λ y. take (length xs - 1) xs ++ y ∷ []) f

pub top-contains : (xs : List ℕ) (x : ℕ) → IsTop xs x → Contains xs x
top-contains xs x h = (length xs - 1, top-within xs x h, get_or_from_slice_get xs (length xs - 1) x x h)

pub top-most : (xs : List ℕ) (x : ℕ) → IsAscending xs → IsTop xs x → (b : ℕ) → Contains xs b → b ≤ x
top-most xs x up h b c =
    let l = top-within xs x h in
    let f = get_or_from_slice_get xs (length xs - 1) x b h in
    elim (cases_lt c.0 (length xs - 1)) [
      | inl m ↦ let a = up c.0 (length xs - 1) b m l in omega (arith, a, f, c.2)
      | inr m ↦ let same : c.0 ≡ length xs - 1 = omega (arith, m, c.1) in let e = ap (λ i. get_or xs i b) same in omega (arith, e, f, c.2)
    ]
