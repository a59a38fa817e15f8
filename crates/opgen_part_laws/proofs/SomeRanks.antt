-- That a set that can be reached has no graph by ranks is impossible.
use Rattle.std.proofs.Common.{◌≡◌, inl, inr, ⊎_elim, ℕ, zero, suc, ◌<◌, ◌≤◌, List, [], ◌∷◌, ◌++◌, length, Contains, refl, sym, subst, arith}
use Rattle.std.proofs.lemmas.Bool.{cases_lt}
use Rattle.std.proofs.lemmas.List.Sorted.{IsPermutation-refl}
use Rattle.opgen_num.proofs.Orders.{least}
use Rattle.opgen_graph.specs.declared.forms.Form.{Form}
use Rattle.opgen_graph.specs.declared.forms.Step.{Step}
use Rattle.opgen_graph.specs.declared.ranks.Adder.{Adder}
use Rattle.opgen_graph.specs.Adders.{Makes, Comb, place, IsFirstStep}
use Rattle.opgen_graph.specs.Reach.{Among, Reachable}
use Rattle.opgen_graph.specs.Graphs.{IsFirstAdder, Round, over, made, stays, done, IsRanks, values}
use Rattle.opgen_graph.proofs.Reaching.{Ranking, ranking_none, ranking_more, unreachable, shorter}
use Rattle.opgen_part_laws.proofs.Classical.{decided}

-- ---- the first step
abbrev MadeAt : (u v f n : ℕ) → Type 0
MadeAt u v f n = (g : Form) × (j : ℕ) × (place g ≡ n) × (1 ≤ j) × Makes g j u v f

abbrev MadeBy : (u v f n j : ℕ) → Type 0
MadeBy u v f n j = (g : Form) × (place g ≡ n) × (1 ≤ j) × Makes g j u v f

first_step : (u v f : ℕ) → Comb u v f → ((step : Step) → IsFirstStep u v f step → ⊥) → ⊥
first_step u v f (form, i, some, makes) found =
    least {P = MadeAt u v f} (place form) (form, i, refl, some, makes) (
    λ n here before. least {P = MadeBy u v f n} here.1 (here.0, here.2, here.3, here.4) (
    λ j there less. found (record { form = there.0; shift = j }) (record {
      shifted = there.2;
      makes = there.3;
      first = λ g k one is.
          ⊎_elim
          (λ (lt : n < place g). inl (omega (arith, lt, there.1)))
          (λ (le : place g ≤ n). ⊎_elim
          (λ (lt : place g < n). absurd (before (place g) lt (g, k, refl, one, is)))
          (λ (ge : n ≤ place g).
          let same : place g ≡ n = omega (arith, le, ge) in
          let no_less : j ≤ k =
          ⊎_elim (λ (lt : k < j). absurd (less k lt (g, same, one, is))) (λ (h : j ≤ k). h) (cases_lt k j) in
          inr (omega (arith, there.1, same), no_less))
          (cases_lt (place g) n))
          (cases_lt n (place g));
    })))

-- ---- the first adder
abbrev adder_of : (f u v : ℕ) → Step → Adder
adder_of f u v step = record { value = f; u = u; v = v; step = step }

abbrev FirstOf : List ℕ → (f u : ℕ) → Type 0
FirstOf placed f u = (v : ℕ) × Contains placed u × Contains placed v × Comb u v f

abbrev SecondOf : List ℕ → (f u v : ℕ) → Type 0
SecondOf placed f u v = Contains placed u × Contains placed v × Comb u v f

first_adder : (placed : List ℕ) (f : ℕ) → Among placed f
    → ((u v : ℕ) (step : Step) → IsFirstAdder placed (adder_of f u v step) → ⊥) → ⊥
first_adder placed f (x, y, cx, cy, makes) found =
    least {P = FirstOf placed f} x (y, cx, cy, makes) (
    λ u here before. least {P = SecondOf placed f u} here.0 (here.1, here.2, here.3) (
    λ v there less. first_step u v f there.2 (
    λ step is. found u v step (record {
      u_placed = there.0;
      v_placed = there.1;
      step = is;
      least = λ a b ca cb comb.
          ⊎_elim
          (λ (lt : u < a). inl lt)
          (λ (le : a ≤ u). ⊎_elim
          (λ (lt : a < u). absurd (before a lt (b, ca, cb, comb)))
          (λ (ge : u ≤ a).
          let same : a ≡ u = omega (arith, le, ge) in
          let no_less : v ≤ b =
          ⊎_elim (λ (lt : b < v). absurd (less b lt (subst (Contains placed) same ca, cb, subst (λ z. Comb z b f) same comb)))
          (λ (h : v ≤ b). h) (cases_lt b v) in
          inr (sym same, no_less))
          (cases_lt a u))
          (cases_lt u a);
    }))))

-- ---- rounds
some_round : (placed left : List ℕ) → ((fresh : List Adder) (rest : List ℕ) → Round placed left fresh rest → ⊥) → ⊥
some_round placed [] found = found [] [] over
some_round placed (f ∷ left) found =
    decided {P = Among placed f} (λ d. elim d [
      | inl among ↦ first_adder placed f among (λ u v step first. some_round placed left
          (λ fresh rest r. found (adder_of f u v step ∷ fresh) rest (made (adder_of f u v step) first r)))
      | inr none ↦ some_round placed left (λ fresh rest r. found fresh (f ∷ rest) (stays f none r))
    ])

some_rounds : (size : ℕ) (set placed left : List ℕ) (adders : List Adder) → length left ≤ size → Ranking set placed left adders
    → Reachable set → ((all : List Adder) → IsRanks set all → ⊥) → ⊥
some_rounds zero set placed [] adders le r reach found = found (adders ++ []) (r.rounds [] done)
some_rounds zero set placed (f ∷ left) adders le r reach found = omega (arith, le)
some_rounds (suc size) set placed [] adders le r reach found = found (adders ++ []) (r.rounds [] done)
some_rounds (suc size) set placed (f ∷ left) adders le r reach found =
    some_round placed (f ∷ left) (λ fresh rest s. decided {P = fresh ≡ []} (λ d. elim d [
      | inl none ↦ unreachable set placed (f ∷ left) adders fresh rest r (λ e. cc) s none reach
      | inr some ↦
          let less = shorter placed (f ∷ left) fresh rest s some in
          let sorted = placed ++ values fresh in
          let more = ranking_more set placed (f ∷ left) adders fresh rest sorted r s some (IsPermutation-refl sorted) in
          some_rounds size set sorted rest (adders ++ fresh) (omega (arith, le, less)) more reach found
    ]))

pub some_ranks : (set : List ℕ) → Reachable set → ((adders : List Adder) → IsRanks set adders → ⊥) → ⊥
some_ranks set reach found = some_rounds (length set) set (1 ∷ []) set [] (omega arith) (ranking_none set) reach found
