-- A number made by its best step, once the rest of that is made.
use Rattle.std.proofs.Common.{◌≡◌, inl, inr, ⊎_elim, ℕ, ◌≤◌, ◌<◌, List, [], ◌∷◌, ◌++◌, Contains, sym, ◌∙◌, subst, arith}
use Rattle.opgen_graph.specs.declared.ranks.Adder.{Adder}
use Rattle.opgen_shared.specs.declared.candidates.Candidate.{Candidate}
use Rattle.opgen_shared.specs.Digits.{digit_count}
use Rattle.opgen_shared.specs.Rule.{IsBest, Grows, stands, made}
use Rattle.opgen_shared.specs.Steps.{IsCandidate, Weighs, AreLight}
use Rattle.opgen_shared.specs.Sums.{placed_by}
use Rattle.opgen_shared.proofs.Growing.{earlier}
use Rattle.opgen_shared.proofs.LevelLaws.{counted}

-- a weight of a number that does not stand is the number of its digits
pub weight_is : (p : List ℕ) (number weight : ℕ) → Weighs p number weight → (Contains p number → ⊥) → weight ≡ digit_count number
weight_is p number weight w non = ⊎_elim (λ (c : Contains p number). absurd (non c)) (λ h. counted number weight h) w.counted

abbrev Kept : (done after : List Adder) → Type 0
Kept done after = (x : ℕ) → Contains (placed_by done) x → Contains (placed_by after) x

pub grown : (done half after : List Adder) (number : ℕ) (c : Candidate) → IsCandidate done number c → IsBest done number c.adder
    → (Contains (placed_by done) number → ⊥) → Grows done c.rest half → Contains (placed_by half) c.rest → Kept done half
    → after ≡ half ++ c.adder ∷ [] → Grows done number after
grown done half after number c is best non grows has kept e =
    subst (Grows done number) (sym e) (⊎_elim
    (λ (h : (c.adder.u ≡ c.rest) × Contains (placed_by done) c.adder.v).
    made c.adder non best (subst (λ x. Grows done x half) (sym h.0) grows) (stands (kept c.adder.v h.1)))
    (λ (h : (c.adder.v ≡ c.rest) × Contains (placed_by done) c.adder.u).
    made c.adder non best (stands h.1) (subst (λ x. Grows done x half) (sym h.0) grows))
    is.rest)

-- the number is not made on the way
pub still_new : (done half : List Adder) (number weight light : ℕ) → (Contains (placed_by done) number → ⊥) → weight ≡ digit_count number
    → light < weight → AreLight done light half → Contains (placed_by half) number → ⊥
still_new done half number weight light non e lt are c =
    ⊎_elim non (λ (le : digit_count number ≤ light). omega (arith, e, lt, le)) (are number c)

pub light_more : (done half after : List Adder) (number weight light : ℕ) (a : Adder) → a.value ≡ number → weight ≡ digit_count number
    → light < weight → AreLight done light half → after ≡ half ++ a ∷ [] → AreLight done weight after
light_more done half after number weight light a value e lt are same x c =
    ⊎_elim
    (λ (k : Contains (placed_by half) x). ⊎_elim (λ (old : Contains (placed_by done) x). inl old)
    (λ (le : digit_count x ≤ light). inr (omega (arith, le, lt))) (are x k))
    (λ (v : a.value ≡ x). inr (subst (λ y. digit_count y ≤ weight) (sym value ∙ v) (omega (arith, e))))
    (earlier half a x (subst (λ ys. Contains (placed_by ys) x) same c))
