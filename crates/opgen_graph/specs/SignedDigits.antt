-- The set of adders that the signed digits of the constants give.
use Rattle.std.specs.Prelude.{◌≡◌, ◌↔◌, ℕ, ◌≤◌, ◌<◌, ◌%◌, ℤ, pos, List, All, Contains}
use Rattle.std.specs.List.Sorted.{IsStrictlyIncreasing}
use Rattle.opgen_num.specs.declared.limits.TheConstants.{MAX_SEARCHED_CONSTANT}
use Rattle.opgen_csd.specs.Digits.{IsCanonical, value_of}
use Rattle.opgen_csd.specs.Partials.{partials}
use Rattle.opgen_graph.specs.Reach.{Reaches}

-- an odd number above 1, up to the greatest constant
abbrev pub IsTarget : ℕ → Type 0
IsTarget t = (t % 2 ≡ 1) × (1 < t) × (t ≤ MAX_SEARCHED_CONSTANT)

-- x is a partial sum of the signed digits of t
abbrev pub IsPartialOf : (t x : ℕ) → Type 0
IsPartialOf t x = (ds : List ℤ) × IsCanonical ds × (value_of ds ≡ pos t) × Contains (partials ds) x

-- all partial sums of the targets, increasing
pub record IsDigitSet (targets set : List ℕ) : Type 0 where
  pub increasing : IsStrictlyIncreasing set
  pub members : (x : ℕ) → Contains set x ↔ ((t : ℕ) × Contains targets t × IsPartialOf t x)

abbrev pub DigitSetsReach : Type 0
DigitSetsReach = (targets set : List ℕ) → All IsTarget targets → IsDigitSet targets set → Reaches targets set
