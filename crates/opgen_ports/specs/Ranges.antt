-- Ranges that keys of several kinds have.
use Rattle.std.specs.Prelude.{ℕ, ◌≤◌, ◌≤ℤ◌, ℤ, unsigned_abs, neg_ℤ, ◌<◌, All, List}
use Rattle.opgen_num.specs.declared.limits.TheConstants.{MAX_NEAR_LSB}
use Rattle.opgen_num.specs.declared.format.Format.{Format}
use Rattle.opgen_num.specs.declared.format.TheConstants.{MAX_INPUT, MAX_LSB}
use Rattle.opgen_num.specs.Formats.{fewest_bits}

-- the power of a lowest bit
abbrev pub IsPower : ℤ → Type 0
IsPower lsb = (neg_ℤ MAX_LSB ≤ℤ lsb) × (lsb ≤ℤ MAX_LSB)

-- the power of a lowest bit of the kinds and versions that have fewer
abbrev pub IsNear : ℤ → Type 0
IsNear lsb = (neg_ℤ MAX_NEAR_LSB ≤ℤ lsb) × (lsb ≤ℤ MAX_NEAR_LSB)

pub record IsInput (f : Format) : Type 0 where
  pub fewest : fewest_bits f.signed ≤ f.width
  pub most : f.width ≤ MAX_INPUT
  pub lsb : IsPower f.lsb

abbrev pub IsWithin : (limit : ℕ) → ℤ → Type 0
IsWithin limit n = unsigned_abs n ≤ limit

-- versions 1 and 2 have lowest bits from -32 to 32 alone
abbrev pub AreNear : (version : ℕ) → List ℤ → Type 0
AreNear version lsbs = version < 3 → All IsNear lsbs
