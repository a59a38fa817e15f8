-- How the space of sets is divided into parts, one for each piece of a search.
use Rattle.std.specs.Prelude.{◌≡◌, ◌⊎◌, ℕ, zero, suc, ◌+◌, ◌*◌, ◌-◌, ◌/◌, ◌%◌, ◌≤◌, ◌<◌, nat_eq, nat_lt, if◌then◌else◌, List, count_by, Contains}
use Rattle.std.specs.List.{list_any}
use Rattle.opgen_graph.specs.SignedDigits.{IsDigitSet}
use Rattle.opgen_search.specs.Space.{AreTargets, IsCandidate}

-- the odd numbers above 1 that are no targets are numbered from 0 in increasing order
abbrev pub number : (targets : List ℕ) → ℕ → ℕ
number targets m = (m - 3) / 2 - count_by (λ t. nat_lt t m) targets

-- of the first odd numbers above 1, so many as asked, those that are no targets
abbrev pub free : (targets : List ℕ) → (count : ℕ) → ℕ
free targets zero = 0
free targets (suc k) = free targets k + (if list_any (λ t. nat_eq t (2 * k + 3)) targets then 0 else 1)

-- the number of an odd number counts those below it
abbrev pub NumbersCount : Type 0
NumbersCount = (targets : List ℕ) (k : ℕ) → AreTargets targets → number targets (2 * k + 3) ≡ free targets k

-- the least member that is no target
pub record IsLeastFurther (targets set : List ℕ) (m : ℕ) : Type 0 where
  pub member : Contains set m
  pub further : Contains targets m → ⊥
  pub least : (x : ℕ) → Contains set x → (Contains targets x → ⊥) → m ≤ x

-- the least further member's number leaves the piece on division by the number of pieces; sets without further members go to piece 0
pub record IsOfPiece (targets : List ℕ) (pieces piece : ℕ) (set : List ℕ) : Type 0 where
  pub further : (m : ℕ) → IsLeastFurther targets set m → number targets m % pieces ≡ piece
  pub bare : ((x : ℕ) → Contains set x → Contains targets x) → piece ≡ 0

abbrev pub IsOwn : (targets : List ℕ) (extra pieces piece : ℕ) → List ℕ → Type 0
IsOwn targets extra pieces piece set = IsCandidate targets extra set × IsOfPiece targets pieces piece set

-- the part of a piece; the set of the signed digits goes to piece 0
abbrev pub Part : (targets : List ℕ) (extra pieces piece : ℕ) → List ℕ → Type 0
Part targets extra pieces piece set = IsOwn targets extra pieces piece set ⊎ (IsDigitSet targets set × (piece ≡ 0))

-- the parts of the pieces from `low` up to `high`
abbrev pub Parts : (targets : List ℕ) (extra pieces low high : ℕ) → List ℕ → Type 0
Parts targets extra pieces low high set = (piece : ℕ) × (low ≤ piece) × (piece < high) × Part targets extra pieces piece set
