-- That the numbers below a bound that have a property make no increasing list is impossible.
use Rattle.std.proofs.Common.{◌≡◌, ◌↔◌, inl, inr, ⊎_elim, ℕ, zero, suc, ◌+◌, ◌<◌, ◌≤◌, List, [], ◌∷◌, Contains, subst, arith}
use Rattle.std.specs.List.Sorted.{IsStrictlyIncreasing}
use Rattle.std.proofs.lemmas.Bool.{cases_lt}
use Rattle.opgen_graph.proofs.Members.{here, there, of_cons, of_nil}
use Rattle.opgen_graph.proofs.SignedSets.{Climbs, climbs_increasing}
use Rattle.opgen_part_laws.proofs.Classical.{decided}

-- the numbers from one on, so many, that have the property
abbrev Lists : (P : ℕ → Type 0) (low count : ℕ) → List ℕ → Type 0
Lists P low count xs = (x : ℕ) → Contains xs x ↔ ((low ≤ x) × (x < low + count) × P x)

module _ (P : ℕ → Type 0) (low count : ℕ) (xs : List ℕ) (is : Lists P (low + 1) count xs) where
  with_first : P low → Lists P low (suc count) (low ∷ xs)
  with_first p x = (
    λ c. ⊎_elim
        (λ (e : low ≡ x). (omega (arith, e), omega (arith, e), subst P e p))
        (λ (k : Contains xs x). let m = (is x).0 k in (omega (arith, m.0), omega (arith, m.1), m.2))
        (of_cons low x xs c),
    λ h. ⊎_elim
        (λ (lt : low < x). there low x xs ((is x).1 (omega (arith, lt), omega (arith, h.1), h.2)))
        (λ (le : x ≤ low). let e : low ≡ x = omega (arith, le, h.0) in subst (Contains (low ∷ xs)) e (here low xs))
        (cases_lt low x),
  )

  without_first : (P low → ⊥) → Lists P low (suc count) xs
  without_first none x = (
    λ c. let m = (is x).0 c in (omega (arith, m.0), omega (arith, m.1), m.2),
    λ h. ⊎_elim
        (λ (lt : low < x). (is x).1 (omega (arith, lt), omega (arith, h.1), h.2))
        (λ (le : x ≤ low). let e : x ≡ low = omega (arith, le, h.0) in absurd (none (subst P e h.2)))
        (cases_lt low x),
  )

listed : (P : ℕ → Type 0) (low count : ℕ) → ((xs : List ℕ) → Climbs xs → Lists P low count xs → ⊥) → ⊥
listed P low zero found = found [] tt (λ x. (λ c. absurd (of_nil x c), λ h. absurd (omega (arith, h.0, h.1))))
listed P low (suc count) found =
    listed P (low + 1) count (λ xs up is. decided {P = P low} (λ d. elim d [
      | inl p ↦ found (low ∷ xs) (λ y c. omega (arith, ((is y).0 c).0), up) (with_first P low count xs is p)
      | inr none ↦ found xs up (without_first P low count xs is none)
    ]))

pub some_list : (P : ℕ → Type 0) (most : ℕ) → ((x : ℕ) → P x → x < most)
    → ((xs : List ℕ) → IsStrictlyIncreasing xs → ((x : ℕ) → Contains xs x ↔ P x) → ⊥) → ⊥
some_list P most below found =
    listed P 0 most (λ xs up is. found xs (climbs_increasing xs up)
    (λ x. (λ c. ((is x).0 c).2, λ p. (is x).1 (omega arith, omega (arith, below x p), p))))
