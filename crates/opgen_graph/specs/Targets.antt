-- The numbers that an adder graph has to make for some constants: their odd parts above 1.
use Rattle.std.specs.Prelude.{◌≡◌, ◌≢◌, ◌↔◌, ℕ, ◌*◌, ◌%◌, ◌^◌, ◌<◌, ℤ, pos, unsigned_abs, List, Contains}
use Rattle.std.specs.List.Sorted.{IsStrictlyIncreasing}
use Rattle.opgen_ports.specs.OddParts.{power_of, odd_part}

-- the odd part of a constant other than 0, without its sign, is above 1
pub record HasTarget (constant : ℤ) (x : ℕ) : Type 0 where
  pub some : constant ≢ pos 0
  pub part : odd_part (unsigned_abs constant) ≡ x
  pub above : 1 < x

abbrev pub IsTargetOf : (constants : List ℤ) (x : ℕ) → Type 0
IsTargetOf constants x = (t : ℤ) × Contains constants t × HasTarget t x

-- these, increasing, each once
pub record AreTargetsOf (constants : List ℤ) (targets : List ℕ) : Type 0 where
  pub increasing : IsStrictlyIncreasing targets
  pub members : (x : ℕ) → Contains targets x ↔ IsTargetOf constants x

-- the odd part is odd, and a power of two times it is the number
abbrev pub PartsAreOdd : Type 0
PartsAreOdd = (n : ℕ) → 0 < n → n < 2 ^ 32 → (2 ^ power_of n * odd_part n ≡ n) × (odd_part n % 2 ≡ 1)
