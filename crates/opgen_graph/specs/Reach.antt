-- Sets of numbers that adders can make from 1, one after another.
use Rattle.std.specs.Prelude.{◌≡◌, ℕ, ◌<◌, ◌^◌, ◌%◌, List, [], ◌∷◌, ◌++◌, All, Contains, IsPermutation}
use Rattle.std.specs.List.Sorted.{IsStrictlyIncreasing}
use Rattle.opgen_graph.specs.Adders.{Comb}

-- two of these numbers make f
abbrev pub Among : List ℕ → ℕ → Type 0
Among placed f = (u : ℕ) × (v : ℕ) × Contains placed u × Contains placed v × Comb u v f

-- each number is made of two that were placed before it
abbrev pub IsBuiltFrom : List ℕ → List ℕ → Type 0
IsBuiltFrom placed [] = Unit {0}
IsBuiltFrom placed (f ∷ fs) = Among placed f × IsBuiltFrom (placed ++ f ∷ []) fs

-- the members can be ordered so that each is made of two among 1 and the earlier ones
abbrev pub Reachable : List ℕ → Type 0
Reachable set = (order : List ℕ) × IsPermutation set order × IsBuiltFrom (1 ∷ []) order

-- an odd number above 1 of at most 13 bits
abbrev pub IsMember : ℕ → Type 0
IsMember n = (n % 2 ≡ 1) × (1 < n) × (n < 2 ^ 13)

-- an odd number of at most 21 bits, and one above 1: those of a graph by itself, which no search has to reach
abbrev pub IsWide : ℕ → Type 0
IsWide n = (n % 2 ≡ 1) × (n < 2 ^ 21)

abbrev pub IsWideMember : ℕ → Type 0
IsWideMember n = (n % 2 ≡ 1) × (1 < n) × (n < 2 ^ 21)

-- an increasing list of members of at most 13 bits
pub record IsAdderSet (set : List ℕ) : Type 0 where
  pub increasing : IsStrictlyIncreasing set
  pub members : All IsMember set

-- a set of adders that has the targets and can be reached
pub record Reaches (targets set : List ℕ) : Type 0 where
  pub adders : IsAdderSet set
  pub has_targets : (t : ℕ) → Contains targets t → Contains set t
  pub reachable : Reachable set
