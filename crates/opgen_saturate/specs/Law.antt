-- The laws of saturation and of wrapping: they keep what is good.
use Rattle.std.specs.Prelude.{ℤ, pos, ◌<ℤ◌}
use Rattle.opgen_num.specs.declared.format.Format.{Format}
use Rattle.opgen_num.specs.declared.mode.Mode.{Mode}
use Rattle.opgen_num.specs.Formats.{Holds}
use Rattle.opgen_num.specs.Rounding.{IsGoodLinear}
use Rattle.opgen_ports.specs.Good.{saturated, IsGoodSaturated, IsGoodWrapped, IsTurned}

-- what is good for a value is good, once both are brought into the range of a format
abbrev pub SaturationKeepsGood : Type 0
SaturationKeepsGood =
    (mode : Mode) (to : Format) (n m y : ℤ) → pos 0 <ℤ m → IsGoodLinear n m y mode → IsGoodSaturated mode to n m (saturated to y)

-- what is good for a value, and in the range of the output's own format, is good in each format, once it is taken modulo two to the
-- power of its width
abbrev pub WrappingKeepsGood : Type 0
WrappingKeepsGood =
    (mode : Mode) (own to : Format) (n m whole y : ℤ) → IsGoodLinear n m whole mode → Holds own.signed own.width whole
    → IsTurned to.width whole y → IsGoodWrapped mode own to n m y
