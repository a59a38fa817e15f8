-- Numbers of 128 bits, and fractions of them.
use Rattle.std.specs.Prelude.{◌^◌, ℤ, pos, neg_ℤ, ◌<ℤ◌}
use Rattle.opgen_num.specs.declared.format.Ratio.{Ratio}

-- strictly between -2 ^ 127 and 2 ^ 127: a number of 128 bits, and so is its opposite
abbrev pub IsIn128 : ℤ → Type 0
IsIn128 n = (neg_ℤ (pos (2 ^ 127)) <ℤ n) × (n <ℤ pos (2 ^ 127))

-- a fraction of such numbers
abbrev pub IsRatioIn128 : Ratio → Type 0
IsRatioIn128 r = IsIn128 r.num × IsIn128 r.den
