-- An adder makes a number in one order or the other exactly where one of the three numbers is an odd part of the others.
use Rattle.std.proofs.Common.{◌≡◌, ◌⊎◌, inl, inr, ⊎_elim, ℕ, ◌+◌, ◌≤◌, ◌<◌, List, length, length-take, take, get_or, Contains, true, false, sym, subst, ◌∙◌, arith}
use Rattle.std.proofs.lemmas.Bool.{cases_lt}
use Rattle.std.proofs.lemmas.List.{get_or-take}
use Rattle.std.proofs.lemmas.List.Elements.{Contains-get_or}
use Rattle.opgen_graph.specs.declared.forms.Form.TheVariants.{A, B, C, D, E}
use Rattle.opgen_graph.specs.Adders.{Comb, CombEither, IsOddPart}
use Rattle.opgen_graph.specs.Reach.{Among}
use Rattle.opgen_graph.proofs.Members.{read}

parts_of : (u v f : ℕ) → Comb u v f → IsOddPart f u v ⊎ IsOddPart u v f
parts_of u v f (A, i, le, e) = inr (i, le, inr (inr (omega (arith, e))))
parts_of u v f (B, i, le, e) = inr (i, le, inl (omega (arith, e)))
parts_of u v f (C, i, le, e) = inr (i, le, inr (inl e))
parts_of u v f (D, i, le, e) = inl (i, le, inl e)
parts_of u v f (E, i, le, e) = inl (i, le, inr e)

turned : (f u v : ℕ) → IsOddPart f v u → IsOddPart f u v
turned f u v (i, le, inl e) = (i, le, inl (omega (arith, e)))
turned f u v (i, le, inr (inl e)) = (i, le, inr (inr e))
turned f u v (i, le, inr (inr e)) = (i, le, inr (inl e))

pub parts_of_either : (u v f : ℕ) → CombEither u v f → IsOddPart f u v ⊎ (IsOddPart u v f ⊎ IsOddPart v u f)
parts_of_either u v f (inl c) = ⊎_elim (λ (p : IsOddPart f u v). inl p) (λ (p : IsOddPart u v f). inr (inl p)) (parts_of u v f c)
parts_of_either u v f (inr c) = ⊎_elim (λ (p : IsOddPart f v u). inl (turned f u v p)) (λ (p : IsOddPart v u f). inr (inr p))
    (parts_of v u f c)

pub comb_of_result : (u v f : ℕ) → IsOddPart f u v → Comb u v f
comb_of_result u v f (i, le, inl e) = (D, i, le, e)
comb_of_result u v f (i, le, inr e) = (E, i, le, e)

pub comb_of_operand : (u v f : ℕ) → IsOddPart u v f → Comb u v f
comb_of_operand u v f (i, le, inl e) = (B, i, le, omega (arith, e))
comb_of_operand u v f (i, le, inr (inl e)) = (C, i, le, e)
comb_of_operand u v f (i, le, inr (inr e)) = (A, i, le, omega (arith, e))

pub refuted : false ≡ true → ⊥
refuted z = cc

-- ---- pairs of a list
pub among_pair : (xs : List ℕ) (f k j : ℕ) → k < length xs → j < length xs → CombEither (get_or xs k 0) (get_or xs j 0) f → Among xs f
among_pair xs f k j lk lj (inl c) = (get_or xs k 0, get_or xs j 0, Contains-get_or xs k 0 lk, Contains-get_or xs j 0 lj, c)
among_pair xs f k j lk lj (inr c) = (get_or xs j 0, get_or xs k 0, Contains-get_or xs j 0 lj, Contains-get_or xs k 0 lk, c)

pub no_pair_either : (xs : List ℕ) (f n : ℕ) → length xs ≤ n
    → ((k j : ℕ) → k < n → j ≤ k → CombEither (get_or xs k 0) (get_or xs j 0) f → ⊥) → Among xs f → ⊥
no_pair_either xs f n le h (u, v, cu, cv, c) =
    let ru = read xs u cu in
    let rv = read xs v cv in
    let here : Comb (get_or xs cu.0 0) (get_or xs cv.0 0) f =
    subst (λ x. Comb x (get_or xs cv.0 0) f) (sym ru) (subst (λ y. Comb u y f) (sym rv) c) in
    ⊎_elim (λ (lt : cu.0 < cv.0). h cv.0 cu.0 (omega (arith, cv.1)) (omega arith) (inr here))
    (λ (ge : cv.0 ≤ cu.0). h cu.0 cv.0 (omega (arith, cu.1)) ge (inl here)) (cases_lt cu.0 cv.0)

pub with_none : (xs : List ℕ) (u f n : ℕ) → length xs ≤ n → ((k : ℕ) → k < n → CombEither u (get_or xs k 0) f → ⊥) → (v : ℕ)
    → Contains xs v → CombEither u v f → ⊥
with_none xs u f n le h v cv c = h cv.0 (omega (arith, cv.1)) (subst (λ y. CombEither u y f) (sym (read xs v cv)) c)

-- ---- the numbers up to one of a list
pub prefix_pair : (xs ys : List ℕ) (k f : ℕ) → ys ≡ take (k + 1) xs → k < length xs
    → (v : ℕ) × Contains ys v × CombEither (get_or xs k 0) v f → Among xs f
prefix_pair xs ys k f e lt (v, cv, c) =
    let i = cv.0 in
    let there : Contains (take (k + 1) xs) v = subst (λ zs. Contains zs v) e cv in
    let at : get_or (take (k + 1) xs) there.0 0 ≡ v = read (take (k + 1) xs) v there in
    let low : there.0 < k + 1 = omega (arith, there.1, length-take (k + 1) xs) in
    let same : get_or xs there.0 0 ≡ v = sym (get_or-take (k + 1) xs there.0 0 low) ∙ at in
    among_pair xs f k there.0 lt (omega (arith, low, lt)) (subst (λ y. CombEither (get_or xs k 0) y f) (sym same) c)

pub no_prefix : (xs ys : List ℕ) (k f : ℕ) → ys ≡ take (k + 1) xs → k < length xs
    → ((v : ℕ) × Contains ys v × CombEither (get_or xs k 0) v f → ⊥) → (j : ℕ) → j ≤ k → CombEither (get_or xs k 0) (get_or xs j 0) f → ⊥
no_prefix xs ys k f e lt none j le c =
    let inside : j < length (take (k + 1) xs) = omega (arith, le, lt, length-take (k + 1) xs) in
    let same : get_or (take (k + 1) xs) j 0 ≡ get_or xs j 0 = get_or-take (k + 1) xs j 0 (omega (arith, le)) in
    let there : Contains (take (k + 1) xs) (get_or xs j 0) =
    subst (Contains (take (k + 1) xs)) same (Contains-get_or (take (k + 1) xs) j 0 inside) in
    none (get_or xs j 0, subst (λ zs. Contains zs (get_or xs j 0)) (sym e) there, c)
