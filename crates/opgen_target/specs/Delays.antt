-- Tables of delays: the delay of each class of cells at each width, in picoseconds.
use Rattle.std.specs.Prelude.{ℕ, ◌+◌, ◌*◌, ◌≤◌, if◌then◌else◌}
use Rattle.opgen_net.specs.declared.cell.Cell.{Cell}
use Rattle.opgen_net.specs.declared.cell.Class.{Class}
use Rattle.opgen_net.specs.declared.cell.Class.TheVariants.{Register}
use Rattle.opgen_net.specs.Classes.{is_same}

-- the delay of a cell of each class and width
abbrev pub Delays : Type 0
Delays = (class : Class) (width : ℕ) → ℕ

-- the widths that a table is asked for
abbrev pub IsTableWidth : ℕ → Type 0
IsTableWidth width = (1 ≤ width) × (width ≤ 128)

-- the delay of a cell
abbrev pub delay_of : Delays → Cell → ℕ
delay_of delays cell = delays cell.class cell.width

-- the setup time: the delay of a register of one bit
abbrev pub setup : Delays → ℕ
setup delays = delays Register 1

-- a delay that grows with the width by a line
abbrev pub on_line : (base per_bit width : ℕ) → ℕ
on_line base per_bit width = base + per_bit * width

-- the bases and steps that lines may have
abbrev pub IsLine : (base per_bit : ℕ) → Type 0
IsLine base per_bit = (base ≤ 1000000) × (per_bit ≤ 10000)

-- the table with the class on that line, and each other class as it was
abbrev pub with_line : Class → (base per_bit : ℕ) → Delays → Delays
with_line class base per_bit delays other width =
    if is_same class other then on_line base per_bit width else delays other width
