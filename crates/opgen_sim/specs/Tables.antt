-- Tables by their addresses, as maps.
use Rattle.std.specs.Prelude.{ℕ, ◌≡◌, Bool, List, [], nat_eq}
use Rattle.std.specs.List.{AllZip}
use Rattle.std.specs.HashMap.{HashMap, get}
use Rattle.opgen_design.specs.declared.design.Driver.{Driver}
use Rattle.opgen_design.specs.declared.design.Driver.TheVariants.{Table}
use Rattle.opgen_runs.specs.Tables.{Row, row_word}

abbrev pub rows_of : Driver → List Row
rows_of (Table to on rows other) = rows
rows_of _ = []

-- a map gives the word of the first row of each address
abbrev pub HasRows : {S : Type 0} → List Row → HashMap ℕ (List Bool) S → Type 0
HasRows rows m = (n : ℕ) → get nat_eq m n ≡ row_word rows n

-- a map for each driver
abbrev pub AreTables : {S : Type 0} → List Driver → List (HashMap ℕ (List Bool) S) → Type 0
AreTables drivers tables = AllZip (λ k m. HasRows (rows_of k) m) drivers tables
