-- The delays of the program's two targets, in picoseconds.
use Rattle.std.specs.Prelude.{ℕ, zero, suc, ◌+◌, ◌*◌, List, [], ◌∷◌, ◌++◌}
use Rattle.std.specs.Int.{div_ceil}
use Rattle.opgen_net.specs.declared.cell.Class.{Class}
use Rattle.opgen_net.specs.declared.cell.Class.TheVariants.{Wire, Logic, Add, Choice, Table, Register}

-- the base and the step per bit of each class of the target `plain`, in the order of the classes
abbrev pub plain_lines : List (ℕ × ℕ)
plain_lines = (0, 0) ∷ (400, 0) ∷ (500, 30) ∷ (450, 0) ∷ (600, 50) ∷ (100, 0) ∷ []

-- the delay of a cell of the target `fixed`, whose carries run in groups of eight bits
abbrev pub fixed_delay : Class → (width : ℕ) → ℕ
fixed_delay Wire width = 0
fixed_delay Logic width = 350
fixed_delay Add width = 400 + 100 * div_ceil width 8
fixed_delay Choice width = 400
fixed_delay Table width = 700
fixed_delay Register width = 80

-- the delays of a class for the widths from 1 up to a width
abbrev pub delays_of : Class → (width : ℕ) → List ℕ
delays_of class zero = []
delays_of class (suc w) = delays_of class w ++ fixed_delay class (suc w) ∷ []

-- the delays of each class in order
abbrev pub fixed_delays : List ℕ
fixed_delays = delays_of Wire 128 ++ (delays_of Logic 128 ++ (delays_of Add 128 ++ (delays_of Choice 128
    ++ (delays_of Table 128 ++ delays_of Register 128))))
