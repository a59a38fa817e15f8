-- Ledgers: how many bits of cells of each class were used.
use Rattle.std.specs.Prelude.{ℕ, ◌+◌, min, List, sum_by, if◌then◌else◌}
use Rattle.opgen_net.specs.declared.cell.Cell.{Cell}
use Rattle.opgen_net.specs.declared.cell.Class.{Class}
use Rattle.opgen_net.specs.Classes.{is_same}

-- the number of each class
abbrev pub Ledger : Type 0
Ledger = (class : Class) → ℕ

-- where a number of a ledger ends, 2 ^ 64 - 1
abbrev pub last_number : ℕ
last_number = 18446744073709551615

-- nothing was charged
abbrev pub empty_ledger : Ledger
empty_ledger class = 0

-- the ledger after one more cell
abbrev pub with_cell : Cell → Ledger → Ledger
with_cell cell ledger class =
    if is_same cell.class class then min (ledger class + cell.width) last_number else ledger class

-- the width of a cell of that class, 0 of any other cell
abbrev pub width_in : Class → Cell → ℕ
width_in class cell = if is_same cell.class class then cell.width else 0

-- the widths of the cells of a class, summed
abbrev pub width_sum : List Cell → Class → ℕ
width_sum cells class = sum_by (width_in class) cells

-- the ledger of these cells: what an empty one holds once they are charged
abbrev pub ledger_of : List Cell → Ledger
ledger_of cells class = min (width_sum cells class) last_number
