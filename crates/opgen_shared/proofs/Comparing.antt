-- What a step weighs, as against its rest, and which of two steps is the better one.
use Rattle.std.proofs.Common.{◌≡◌, inl, inr, ⊎_elim, ℕ, ◌≤◌, ◌<◌, ◌^◌, List, get_or, Contains, refl, sym, ap, subst, ◌∙◌, arith}
use Rattle.std.proofs.lemmas.Bool.{cases_lt}
use Rattle.opgen_graph.specs.declared.ranks.Adder.{Adder}
use Rattle.opgen_graph.specs.Reach.{IsWide}
use Rattle.opgen_shared.specs.declared.candidates.Candidate.{Candidate}
use Rattle.opgen_shared.specs.Digits.{digit_count}
use Rattle.opgen_shared.specs.Levels.{level}
use Rattle.opgen_shared.specs.Rule.{IsShiftedLeft, IsStepTo, weight, heavier, rank}
use Rattle.opgen_shared.specs.Steps.{IsRest, IsCandidate, IsNotAfter, Weighs}
use Rattle.opgen_shared.specs.Sums.{AreSums, placed_by}
use Rattle.opgen_shared.proofs.Existence.{above_one, digit_adder}
use Rattle.opgen_shared.proofs.Forms.{some_digits}
use Rattle.opgen_shared.proofs.LevelLaws.{own_digits, weight_placed, weight_new}
use Rattle.opgen_shared.proofs.Ranking.{quickest}
use Rattle.opgen_shared.proofs.StepLaws.{one_stands, rest_wide}

-- ---- weights
weight_of_placed : (done : List Adder) (levels : List ℕ) (x : ℕ) → AreSums done levels → x < 2 ^ 21 → Contains (placed_by done) x → weight done x ≡ 1
weight_of_placed done levels x b lt c =
    sym (weight_placed done x (subst (λ n. 0 < n) (b.known x lt) ((b.marks x lt).1 c)))

weight_of_new : (done : List Adder) (levels : List ℕ) (x : ℕ) → AreSums done levels → x < 2 ^ 21 → (Contains (placed_by done) x → ⊥)
    → digit_count x ≡ weight done x
weight_of_new done levels x b lt non = weight_new done x (λ some. non ((b.marks x lt).0 (subst (λ n. 0 < n) (sym (b.known x lt)) some)))

pub weighs_of : (done : List Adder) (levels : List ℕ) (x : ℕ) → AreSums done levels → IsWide x → Weighs (placed_by done) x (weight done x)
weighs_of done levels x b wide =
    ⊎_elim
    (λ (some : 0 < level done x). record {
      some = omega (arith, weight_placed done x some);
      counted = inl ((b.marks x wide.1).0 (subst (λ n. 0 < n) (sym (b.known x wide.1)) some));
    })
    (λ (none : level done x ≤ 0).
    let e = weight_new done x (λ some. omega (arith, some, none)) in
    subst (Weighs (placed_by done) x) e (record {
      some = some_digits x (digit_count x) (omega (arith, wide.0)) (own_digits x);
      counted = inr (own_digits x);
    }))
    (cases_lt 0 (level done x))

pub heavier_rest : (done : List Adder) (levels : List ℕ) (a : Adder) (rest : ℕ) → AreSums done levels → IsShiftedLeft a
    → IsRest (placed_by done) a rest → weight done rest ≡ heavier done a
heavier_rest done levels a rest b s r =
    let some = (weighs_of done levels rest b (rest_wide (placed_by done) a rest s r)).some in
    ⊎_elim
    (λ (h : (a.u ≡ rest) × Contains (placed_by done) a.v).
    omega (arith, weight_of_placed done levels a.v b s.v.1 h.1, ap (weight done) h.0, some))
    (λ (h : (a.v ≡ rest) × Contains (placed_by done) a.u).
    omega (arith, weight_of_placed done levels a.u b s.u.1 h.1, ap (weight done) h.0, some))
    r

pub step_of : (done : List Adder) (levels : List ℕ) (a : Adder) (rest : ℕ) → AreSums done levels → IsShiftedLeft a
    → IsRest (placed_by done) a rest → weight done rest < digit_count a.value → IsStepTo done a.value a
step_of done levels a rest b s r lighter = record {
  value = refl;
  adder = s;
  stands = one_stands (placed_by done) a rest r;
  lighter = subst (λ w. w < digit_count a.value) (heavier_rest done levels a rest b s r) lighter;
}

-- ---- candidates
pub candidate_lighter : (done : List Adder) (levels : List ℕ) (number : ℕ) (c : Candidate) → AreSums done levels → IsCandidate done number c
    → c.weight < digit_count number
candidate_lighter done levels number c b is =
    subst (λ w. w < digit_count number) (sym (is.weight ∙ heavier_rest done levels c.adder c.rest b is.step.adder is.rest)) is.step.lighter

-- a number that does not stand has two digits at least
pub heavy_new : (done : List Adder) (levels : List ℕ) (x : ℕ) → AreSums done levels → IsWide x → (Contains (placed_by done) x → ⊥)
    → 1 < weight done x
heavy_new done levels x b wide non =
    let (a, d) = digit_adder x (above_one done x wide non) in
    subst (λ w. 1 < w) (weight_of_new done levels x b wide.1 non) (d.fewer (digit_count x) (own_digits x)).0

-- a quick step of two numbers that stand is not after one with a rest
pub quick_first : (done : List Adder) (levels : List ℕ) (number : ℕ) (best : Candidate) (a : Adder) (rest : ℕ) → AreSums done levels
    → IsCandidate done number best → best.weight ≡ 1 → get_or best.rank 0 0 ≡ 0 → IsShiftedLeft a → IsRest (placed_by done) a rest
    → (Contains (placed_by done) rest → ⊥) → IsNotAfter done best.adder a
quick_first done levels number best a rest b is light quick s r non =
    let ranked : get_or (rank done best.adder) 0 0 ≡ 0 = ap (λ xs. get_or xs 0 0) (sym is.ranked) ∙ quick in
    quickest done a best.adder ranked
    (sym (heavier_rest done levels best.adder best.rest b is.step.adder is.rest) ∙ sym is.weight ∙ light)
    (subst (λ w. 1 < w) (heavier_rest done levels a rest b s r)
    (heavy_new done levels rest b (rest_wide (placed_by done) a rest s r) non))
