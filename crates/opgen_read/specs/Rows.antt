-- Rows of a table that were read already, in front of the rest.
use Rattle.std.specs.Prelude.{Bool, List, ◌++◌, Option, Some, None}

-- what was read behind rows that stand already
abbrev pub with_rows : List (List Bool × List Bool) → Option (List (List Bool × List Bool) × List Bool)
    → Option (List (List Bool × List Bool) × List Bool)
with_rows front None = None
with_rows front (Some x) = Some (front ++ x.0, x.1)
