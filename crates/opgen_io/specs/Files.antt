-- The files of a folder as a function from names to bytes, and what one store changes.
use Rattle.std.specs.Prelude.{◌≡◌, ◌≢◌, ℕ, List, Option, Some, None, if◌then◌else◌}
use Rattle.std.specs.Str.{bytes_eq}

-- for each name, as its bytes, the bytes that stand under it, if it is there
abbrev pub Files : Type 0
Files = List ℕ → Option (List ℕ)

-- the files with these bytes under the name, and all other names as they were
abbrev pub stored : List ℕ → List ℕ → Files → Files
stored name bytes files = λ other. if bytes_eq other name then Some bytes else files other

-- every other name stands for what it stood for, or is absent as it was
abbrev pub SameBut : List ℕ → Files → Files → Type 0
SameBut name old later = (other : List ℕ) → other ≢ name → later other ≡ old other

-- the same of a folder, where it tells its files
abbrev pub KeepsOthers : List ℕ → Option Files → Option Files → Type 0
KeepsOthers name (Some old) (Some later) = SameBut name old later
KeepsOthers name (Some old) None = Unit {0}
KeepsOthers name None later = Unit {0}
