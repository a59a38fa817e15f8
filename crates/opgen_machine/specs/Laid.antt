-- Tables laid out in memory: one number for each address, in order.
use Rattle.std.specs.Prelude.{ℕ, ◌≡◌, ◌+◌, ◌^◌, ◌<◌, ◌≤◌, All, Bool, List, ◌∷◌, length, slice_index, unwrap_or}
use Rattle.std.specs.List.{AllZip}
use Rattle.opgen_num.specs.Words.{nat}
use Rattle.opgen_design.specs.declared.design.Design.{Design}
use Rattle.opgen_design.specs.declared.design.Driver.{Driver}
use Rattle.opgen_design.specs.declared.design.Driver.TheVariants.{Table}
use Rattle.opgen_runs.specs.Tables.{Row, row_word}

-- the number of a table's word at an address
abbrev pub number_at : List Row → (other : List Bool) → (address : ℕ) → ℕ
number_at rows other n = nat (unwrap_or (row_word rows n) other)

-- the numbers of a table's words stand behind a place, one for each address of so many bits
pub record IsTableAt (low : ℕ) (m : List ℕ) (rows : List Row) (other : List Bool) (bits from : ℕ) : Type 0 where
  pub behind : low ≤ from
  pub within : from + 2 ^ bits ≤ length m
  pub number : (n : ℕ) → n < 2 ^ bits → slice_index m (from + n) ≡ number_at rows other n

-- a driver that is a table with rows has its numbers behind a place
abbrev pub IsLaid : (low : ℕ) → List ℕ → Driver → (from : ℕ) → Type 0
IsLaid low m (Table to on (r ∷ rows) other) from = IsTableAt low m (r ∷ rows) other (length r.0) from
IsLaid low m _ from = Unit {0}

-- there is room for the numbers of a driver's table among those before a place
abbrev pub HasRoom : (base : ℕ) → Driver → (from : ℕ) → Type 0
HasRoom base (Table to on (r ∷ rows) other) from = from + 2 ^ length r.0 ≤ base
HasRoom base _ from = Unit {0}

-- a place for each driver
abbrev pub AreLaid : (low : ℕ) → List ℕ → List Driver → List ℕ → Type 0
AreLaid low m drivers places = AllZip (IsLaid low m) drivers places

-- the rows of a table have addresses of so many bits, and words of at most 64 bits
abbrev pub FitRows : ℕ → List Row → Type 0
FitRows bits rows = All (λ r. (length r.0 ≡ bits) × (length r.1 ≤ 64)) rows

-- the addresses of a table have at most 32 bits
abbrev pub IsSmall : Driver → Type 0
IsSmall (Table to on rows other) = All (λ r. length r.0 ≤ 32) rows
IsSmall _ = Unit {0}

-- the table of a driver can be laid out
abbrev pub CanBeLaid : Driver → Type 0
CanBeLaid (Table to on (r ∷ rows) other) = FitRows (length r.0) (r ∷ rows) × (length r.0 ≤ 32) × (length other ≤ 64)
CanBeLaid _ = Unit {0}

-- more numbers behind those that were there
pub record Grown (old new : List ℕ) : Type 0 where
  pub longer : length old ≤ length new
  pub kept : (i : ℕ) → i < length old → slice_index new i ≡ slice_index old i

-- a design whose words have at most 64 bits, and whose tables have addresses of at most 32
pub record IsFlat (d : Design) : Type 0 where
  pub signals : All (λ s. s.width ≤ 64) d.signals
  pub ports : All (λ p. p.width ≤ 64) d.ports
  pub tables : All IsSmall d.drivers
