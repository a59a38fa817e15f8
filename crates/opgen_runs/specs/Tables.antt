-- The rows of a table, and the word that it has at an address.
use Rattle.std.specs.Prelude.{ℕ, Bool, List, [], ◌∷◌, nat_eq, if◌then◌else◌, Option, Some, None}
use Rattle.opgen_num.specs.Words.{nat}

-- a row: an address, and its word
abbrev pub Row : Type 0
Row = List Bool × List Bool

-- the word of the first row of an address
abbrev pub row_word : List Row → (address : ℕ) → Option (List Bool)
row_word [] n = None
row_word (r ∷ rows) n = if nat_eq (nat r.0) n then Some r.1 else row_word rows n
