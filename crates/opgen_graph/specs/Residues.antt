-- Whole numbers modulo a power of two.
use Rattle.std.specs.Prelude.{◌≡◌, ℕ, ◌+◌, ◌*◌, ◌^◌, ℤ, pos, ◌+ℤ◌}

-- n is z, up to a multiple of 2 ^ bits
pub record IsResidue (bits : ℕ) (z : ℤ) (n : ℕ) : Type 0 where
  pub more : ℕ
  pub less : ℕ
  pub same : z +ℤ pos (2 ^ bits * more) ≡ pos (n + 2 ^ bits * less)
