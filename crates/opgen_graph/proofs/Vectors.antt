-- The test of a `Vec` for emptiness, as said of its items, and one item more of a list that is appended.
use Rattle.std.proofs.Common.{◌≡◌, ◌≢◌, ℕ, ◌+◌, ◌<◌, List, [], ◌∷◌, ◌++◌, length, get_or, take, append_assoc, refl, sym, ap, ◌∙◌, true, false, ◌==◌, Vec, vec_len, Global, arith}
use Rattle.std.proofs.lemmas.List.{take_more}
use Rattle.std.proofs.lemmas.Bool.Decides.{nat_tests}

no_items : {X : Type 0} (n : ℕ) (xs : List X) → n ≡ length xs → true ≡ (n == 0) → xs ≡ []
no_items n [] e t = refl
no_items n (x ∷ xs) e t = absurd (let z : n ≡ 0 = grind (arith, nat_tests, t) in omega arith)

pub is_empty_true : {X : Type 0} (v : Vec X Global) → true ≡ (vec_len v == 0) → v.items ≡ []
is_empty_true v t = no_items v.len v.items v.ok.0 t

some_items : {X : Type 0} (n : ℕ) (xs : List X) → n ≡ length xs → false ≡ (n == 0) → xs ≢ []
some_items n [] e t z = let ne : n ≢ 0 = grind (arith, nat_tests, t) in ne (omega arith)
some_items n (x ∷ xs) e t z = cc

pub is_empty_false : {X : Type 0} (v : Vec X Global) → false ≡ (vec_len v == 0) → v.items ≢ []
is_empty_false v t = some_items v.len v.items v.ok.0 t

-- one item more of a list that is appended
pub one_more : {A : Type 0} (xs : List A) (i : ℕ) (x : A) → i < length xs → (before now new : List A) → now ≡ before ++ take i xs
    → new ≡ now ++ get_or xs i x ∷ [] → new ≡ before ++ take (i + 1) xs
one_more xs i x lt before now new e h =
    h
    ∙ ap (λ ys. ys ++ get_or xs i x ∷ []) e
    ∙ append_assoc before (take i xs) (get_or xs i x ∷ [])
    ∙ ap (λ ys. before ++ ys) (sym (take_more xs i x lt))
