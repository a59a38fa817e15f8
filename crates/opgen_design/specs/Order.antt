-- Orders in which the drivers of a design can be evaluated within a clock cycle.
use Rattle.std.specs.Prelude.{ℕ, ◌+◌, ◌^◌, ◌≡◌, ◌<◌, if◌then◌else◌, Bool, true, false, List, [], ◌∷◌, length, slice_get, Some}
use Rattle.std.specs.List.Sorted.{IsPermutation}
use Rattle.opgen_components.specs.declared.Component.{Component}
use Rattle.opgen_components.specs.Graph.{component_of}
use Rattle.opgen_design.specs.declared.design.Design.{Design}
use Rattle.opgen_design.specs.declared.design.Driver.{Driver}
use Rattle.opgen_design.specs.declared.design.Driver.TheVariants.{Register}
use Rattle.opgen_design.specs.declared.design.Target.{Target}
use Rattle.opgen_design.specs.declared.design.Target.TheVariants.{Signal as signal, Port as port_of}
use Rattle.opgen_design.specs.Sound.{target, Needs}

abbrev pub is_register : Driver → Bool
is_register (Register to e) = true
is_register _ = false

-- the places of the drivers that are no registers, from a place on
abbrev pub waiting : ℕ → List Driver → List ℕ
waiting i [] = []
waiting i (k ∷ ks) = if is_register k then waiting (i + 1) ks else i ∷ waiting (i + 1) ks

-- each driver that is no register stands once, after each driver of a signal that it needs
pub record IsOrderOf (d : Design) (order : List ℕ) : Type 0 where
  pub each_once : IsPermutation (waiting 0 d.drivers) order
  pub needs_first : (p q i j s : ℕ) (k m : Driver) → slice_get order p ≡ Some i → slice_get d.drivers i ≡ Some k
      → slice_get order q ≡ Some j → slice_get d.drivers j ≡ Some m
      → target m ≡ signal s → Needs s k → q < p

-- a driver of a signal ranks by its group's number, and a driver of a port comes after all those
abbrev pub rank_at : List Component → Target → ℕ
rank_at cs (signal s) = (component_of cs s).number
rank_at cs (port_of p) = 2 ^ 64

abbrev pub IsSmallAt : List Component → Target → Type 0
IsSmallAt cs (signal s) = (component_of cs s).number < 2 ^ 64
IsSmallAt cs (port_of p) = Unit {0}

pub record AreRanks (d : Design) (cs : List Component) (count : ℕ) (ranks : List ℕ) : Type 0 where
  pub one_each : length ranks ≡ count
  pub rank : (i : ℕ) (k : Driver) → i < count → slice_get d.drivers i ≡ Some k → slice_get ranks i ≡ Some (rank_at cs (target k))
  pub small : (i : ℕ) (k : Driver) → i < count → slice_get d.drivers i ≡ Some k → IsSmallAt cs (target k)
