-- Modes of outputs, by how they are rounded and by whether they are exact.
use Rattle.std.specs.Prelude.{Bool, true, false, Option, Some, None}
use Rattle.opgen_num.specs.declared.mode.Mode.{Mode}
use Rattle.opgen_num.specs.declared.mode.Mode.TheVariants.{Exact, Faithful, Down, Nearest}
use Rattle.opgen_num.specs.declared.mode.Rounding.{Rounding}
use Rattle.opgen_num.specs.declared.mode.Rounding.TheVariants as rounding

abbrev pub is_exact : Mode → Bool
is_exact Exact = true
is_exact Faithful = false
is_exact Down = false
is_exact Nearest = false

abbrev pub is_faithful : Mode → Bool
is_faithful Exact = false
is_faithful Faithful = true
is_faithful Down = false
is_faithful Nearest = false

-- an operator's own mode, where it has one, is exact
abbrev pub is_marked : Option Mode → Bool
is_marked None = false
is_marked (Some mode) = is_exact mode

-- the mode of outputs that are exact, or else faithful
abbrev pub mode_of_exact : (exact : Bool) → Mode
mode_of_exact true = Exact
mode_of_exact false = Faithful

-- the mode of outputs whose rounding is chosen, or else of those that are exact or faithful
abbrev pub mode_by : Option Rounding → (exact : Bool) → Mode
mode_by (Some rounding.Down) exact = Down
mode_by (Some rounding.Nearest) exact = Nearest
mode_by None exact = mode_of_exact exact

-- one of the two modes that every kind has
abbrev pub IsExactOrFaithful : Mode → Type 0
IsExactOrFaithful Exact = Unit {0}
IsExactOrFaithful Faithful = Unit {0}
IsExactOrFaithful Down = ⊥
IsExactOrFaithful Nearest = ⊥
