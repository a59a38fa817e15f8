-- The space of a search: the sets of adders among which the least one is sought.
use Rattle.std.specs.Prelude.{◌≡◌, ◌⊎◌, ℕ, ◌+◌, ◌^◌, ◌%◌, ◌≤◌, ◌<◌, max, List, [], ◌∷◌, length, All, Contains}
use Rattle.std.specs.List.Sorted.{IsStrictlyIncreasing}
use Rattle.opgen_graph.specs.Reach.{Reachable}
use Rattle.opgen_graph.specs.SetCost.{bit_length}
use Rattle.opgen_graph.specs.SignedDigits.{IsTarget, IsDigitSet}

-- increasing odd numbers above 1, each at most the greatest constant
pub record AreTargets (targets : List ℕ) : Type 0 where
  pub increasing : IsStrictlyIncreasing targets
  pub each : All IsTarget targets

abbrev pub greatest : List ℕ → ℕ
greatest [] = 0
greatest (x ∷ xs) = max x (greatest xs)

-- members have at most one bit more than the greatest target
abbrev pub limit : (targets : List ℕ) → ℕ
limit targets = 2 ^ (bit_length (greatest targets) + 1)

-- an increasing set that has the targets and at most `extra` further members, each odd, above 1 and below the limit,
-- and that can be reached from 1
pub record IsCandidate (targets : List ℕ) (extra : ℕ) (set : List ℕ) : Type 0 where
  pub increasing : IsStrictlyIncreasing set
  pub has_targets : (t : ℕ) → Contains targets t → Contains set t
  pub few : length set ≤ length targets + extra
  pub range : All (λ x. (x % 2 ≡ 1) × (1 < x) × (x < limit targets)) set
  pub reachable : Reachable set

-- these, and the set of the signed digits' partial sums
abbrev pub InSpace : (targets : List ℕ) → (extra : ℕ) → (set : List ℕ) → Type 0
InSpace targets extra set = IsCandidate targets extra set ⊎ IsDigitSet targets set
