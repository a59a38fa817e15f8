-- Bytes that a sink has taken: those before, and then a first part or all of what was put.
use Rattle.std.specs.Prelude.{◌≡◌, ℕ, ◌-◌, List, ◌++◌, Option, Some, None, length, take}

-- the later bytes are those held before and then the first of these bytes: none, some or all
abbrev pub GainsPrefix : List ℕ → List ℕ → List ℕ → Type 0
GainsPrefix held bytes later = later ≡ held ++ take (length later - length held) bytes

-- the same of a sink, where it tells what it has taken
abbrev pub TakesPrefix : Option (List ℕ) → List ℕ → Option (List ℕ) → Type 0
TakesPrefix (Some held) bytes (Some later) = GainsPrefix held bytes later
TakesPrefix (Some held) bytes None = Unit {0}
TakesPrefix None bytes later = Unit {0}
