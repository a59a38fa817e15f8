-- When an output is good for a fraction, in a mode.
use Rattle.std.specs.Prelude.{Bool, ℕ, ℤ, ◌≡◌, refl, true, false, pos, negsuc, ◌^◌, ◌+ℤ◌, ◌*ℤ◌, int_lt, if◌then◌else◌}
use Rattle.opgen_num.specs.declared.format.Ratio.{Ratio}
use Rattle.opgen_num.specs.declared.mode.Mode.{Mode}
use Rattle.opgen_num.specs.declared.mode.Mode.TheVariants.{Exact}
use Rattle.opgen_num.specs.declared.mode.Overflow.{Overflow}
use Rattle.opgen_num.specs.declared.mode.Overflow.TheVariants.{Saturate, Wrap}
use Rattle.opgen_num.specs.Rounding.{IsGoodLinear}
use Rattle.opgen_num.specs.declared.format.Format.{Format}
use Rattle.opgen_num.specs.Formats.{least, greatest}

-- y is good for a fraction
abbrev pub IsGoodRatio : (mode : Mode) → Ratio → (y : ℤ) → Type 0
IsGoodRatio mode ratio y = IsGoodLinear ratio.num ratio.den y mode

-- the number of the range from low to high that is nearest to n
abbrev pub into_range : (low high n : ℤ) → ℤ
into_range low high n = if int_lt n low then low else if int_lt high n then high else n

abbrev pub least_of : Format → ℤ
least_of to = least to.signed to.width

abbrev pub greatest_of : Format → ℤ
greatest_of to = greatest to.signed to.width

-- a number brought into the range of a format
abbrev pub saturated : (to : Format) → ℤ → ℤ
saturated to n = into_range (least_of to) (greatest_of to) n

-- y is good for n / m, m above 0, once that is brought into the range of a format
abbrev pub IsGoodSaturated : (mode : Mode) → (to : Format) → (n m y : ℤ) → Type 0
IsGoodSaturated mode to n m y = IsGoodLinear (into_range (m *ℤ least_of to) (m *ℤ greatest_of to) n) m y mode

-- two numbers are the same modulo two to a power
pub record IsTurned (power : ℕ) (whole y : ℤ) : Type 0 where
  pub turns : ℤ
  pub same : y ≡ whole +ℤ (pos (2 ^ power) *ℤ turns)

-- y is, modulo two to the power of the width of a format, a number that is good for n / m and within the range of the output's own
pub record IsGoodWrapped (mode : Mode) (own to : Format) (n m y : ℤ) : Type 0 where
  pub whole : ℤ
  pub good : IsGoodLinear n m whole mode
  pub held : saturated own whole ≡ whole
  pub turned : IsTurned to.width whole y

-- y is good for n / m, which may be out of the range of the format that is chosen
abbrev pub IsGoodChosen : Overflow → (mode : Mode) → (own to : Format) → (n m y : ℤ) → Type 0
IsGoodChosen Saturate mode own to n m y = IsGoodSaturated mode to n m y
IsGoodChosen Wrap mode own to n m y = IsGoodWrapped mode own to n m y

-- 24 is above what 4 bits hold, -6 below what any unsigned format holds, and 3 times -8 below what 4 signed bits hold
abbrev bits_of : (signed : Bool) → Format
bits_of signed = record { signed = signed; width = 4; lsb = pos 0 }

above : saturated (bits_of false) (pos 24) ≡ pos 15
above = refl

negative : saturated (bits_of false) (negsuc 5) ≡ pos 0
negative = refl

below : saturated (bits_of true) (negsuc 23) ≡ negsuc 7
below = refl

within : saturated (bits_of true) (negsuc 5) ≡ negsuc 5
within = refl

-- 18 is 2 modulo 16, and -9 is 7
abbrev bits_of_own : Format
bits_of_own = record { signed = true; width = 6; lsb = pos 0 }

wrapped : IsGoodWrapped Exact bits_of_own (bits_of false) (pos 18) (pos 1) (pos 2)
wrapped = record { whole = pos 18; good = refl; held = refl; turned = record { turns = negsuc 0; same = refl } }

wrapped_below : IsGoodWrapped Exact bits_of_own (bits_of true) (negsuc 8) (pos 1) (pos 7)
wrapped_below = record { whole = negsuc 8; good = refl; held = refl; turned = record { turns = pos 1; same = refl } }
