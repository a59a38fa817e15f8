-- The graph of a set of adders, built in rounds: each round makes all members that earlier numbers give.
use Rattle.std.specs.Prelude.{◌≡◌, ◌≢◌, ◌⊎◌, ℕ, ◌≤◌, ◌<◌, List, [], ◌∷◌, ◌++◌, map, Contains}
use Rattle.opgen_graph.specs.declared.ranks.Adder.{Adder}
use Rattle.opgen_graph.specs.Adders.{Comb, IsFirstStep}
use Rattle.opgen_graph.specs.Reach.{Among}

abbrev pub values : List Adder → List ℕ
values = map (λ a. a.value)

-- the adder of a number: of all pairs that make it the least u, then the least v, and then the first step
pub record IsFirstAdder (placed : List ℕ) (a : Adder) : Type 0 where
  pub u_placed : Contains placed a.u
  pub v_placed : Contains placed a.v
  pub step : IsFirstStep a.u a.v a.value a.step
  pub least : (u v : ℕ) → Contains placed u → Contains placed v → Comb u v a.value → (a.u < u) ⊎ ((a.u ≡ u) × (a.v ≤ v))

-- one round over the numbers that are left, in their order: those that can be made get their adders, and the others stay
pub data Round (placed : List ℕ) : (left : List ℕ) → (fresh : List Adder) → (rest : List ℕ) → Type 0 where
  over : Round placed [] [] []
  made : (a : Adder) {left : List ℕ} {fresh : List Adder} {rest : List ℕ} → IsFirstAdder placed a →
      Round placed left fresh rest → Round placed (a.value ∷ left) (a ∷ fresh) rest
  stays : (f : ℕ) {left : List ℕ} {fresh : List Adder} {rest : List ℕ} → (Among placed f → ⊥) →
      Round placed left fresh rest → Round placed (f ∷ left) fresh (f ∷ rest)

-- rounds until no number is left; each makes at least one, of what the rounds before it made
pub data Rounds : (placed left : List ℕ) → List Adder → Type 0 where
  done : {placed : List ℕ} → Rounds placed [] []
  round : {placed left rest : List ℕ} {fresh later : List Adder} → Round placed left fresh rest → fresh ≢ [] →
      Rounds (placed ++ values fresh) rest later → Rounds placed left (fresh ++ later)

-- the adders of a set, from 1 on
abbrev pub IsRanks : (set : List ℕ) → List Adder → Type 0
IsRanks = Rounds (1 ∷ [])
