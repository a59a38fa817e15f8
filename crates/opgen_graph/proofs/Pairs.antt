-- The first pair of a list that rises.
use Rattle.std.proofs.Common.{◌≡◌, ◌⊎◌, inl, inr, ⊎_elim, ℕ, ◌≤◌, ◌<◌, List, length, get_or, Contains, sym, subst, ◌∙◌, arith}
use Rattle.std.specs.List.Sorted.{IsNonDecreasing}
use Rattle.std.proofs.lemmas.Bool.{cases_lt, cases_order}
use Rattle.opgen_graph.specs.Adders.{Comb}
use Rattle.opgen_graph.specs.Reach.{Among}
use Rattle.opgen_graph.proofs.Members.{read}

pub no_pair : (xs : List ℕ) (f n : ℕ) → length xs ≤ n → ((k j : ℕ) → k < n → j < length xs → Comb (get_or xs k 0) (get_or xs j 0) f → ⊥)
    → Among xs f → ⊥
no_pair xs f n le h (u, v, cu, cv, made) =
    h cu.0 cv.0 (omega (arith, cu.1)) cv.1 (subst (λ x. Comb x (get_or xs cv.0 0) f) (sym (read xs u cu))
    (subst (λ y. Comb u y f) (sym (read xs v cv)) made))

pub least_pair : (xs : List ℕ) (f i v : ℕ) → IsNonDecreasing xs
    → ((k j : ℕ) → k < i → j < length xs → Comb (get_or xs k 0) (get_or xs j 0) f → ⊥)
    → ((j : ℕ) → j < length xs → Comb (get_or xs i 0) (get_or xs j 0) f → v ≤ get_or xs j 0) → (a b : ℕ) → Contains xs a → Contains xs b
    → Comb a b f → (get_or xs i 0 < a) ⊎ ((get_or xs i 0 ≡ a) × (v ≤ b))
least_pair xs f i v up before at a b ca cb made =
    let ra = read xs a ca in
    let rb = read xs b cb in
    let made2 : Comb (get_or xs ca.0 0) (get_or xs cb.0 0) f =
    subst (λ x. Comb x (get_or xs cb.0 0) f) (sym ra) (subst (λ y. Comb a y f) (sym rb) made) in
    ⊎_elim (λ (lt : ca.0 < i). absurd (before ca.0 cb.0 lt cb.1 made2))
    (λ (le : i ≤ ca.0).
    let low : get_or xs i 0 ≤ a = subst (λ x. get_or xs i 0 ≤ x) ra (up i ca.0 0 le ca.1) in
    ⊎_elim (λ (same : get_or xs i 0 ≡ a). inr
    (same, subst (λ y. v ≤ y) rb (at cb.0 cb.1 (subst (λ x. Comb x (get_or xs cb.0 0) f) (ra ∙ sym same) made2))))
    (λ (o : (get_or xs i 0 < a) ⊎ (a < get_or xs i 0)). ⊎_elim (λ (lt : get_or xs i 0 < a). inl lt)
    (λ (gt : a < get_or xs i 0). absurd (omega arith)) o)
    (cases_order (get_or xs i 0) a))
    (cases_lt ca.0 i)
