-- Floors and ceilings of fractions n / m with m above 0.
use Rattle.std.specs.Prelude.{ℤ, pos, ◌+ℤ◌, ◌-ℤ◌, ◌*ℤ◌, ◌<ℤ◌, ◌≤ℤ◌}

-- the greatest whole number that is not above the fraction
abbrev pub IsFloor : (n m floor : ℤ) → Type 0
IsFloor n m floor = ((m *ℤ floor) ≤ℤ n) × (n <ℤ (m *ℤ (floor +ℤ pos 1)))

-- the least whole number that is not below it
abbrev pub IsCeiling : (n m ceiling : ℤ) → Type 0
IsCeiling n m ceiling = ((m *ℤ (ceiling -ℤ pos 1)) <ℤ n) × (n ≤ℤ (m *ℤ ceiling))
