-- The two kinds of target as contracts see them, and the delays that their lines and lists mean.
use Rattle.std.specs.Prelude.{ℕ, ◌+◌, ◌-◌, ◌*◌, List, All, slice_index, slice_index_or}
use Rattle.opgen_net.specs.Classes.{place_of}
use Rattle.opgen_target.specs.Delays.{Delays, IsLine, on_line}
use Rattle.opgen_target.specs.Ledger.{Ledger}

-- a target of lines: its name, the base and the step of each class in order, and how many bits of each class were charged
pub record LinearState : Type 0 where
  pub name : List ℕ
  pub lines : List (ℕ × ℕ)
  pub charged : List ℕ

-- a target of listed delays: its name, the delays, and how many bits of each class were charged
pub record ListState : Type 0 where
  pub name : List ℕ
  pub delays : List ℕ
  pub charged : List ℕ

-- the table of lines: base and step of each class, in the order of the classes
abbrev pub line_table : List (ℕ × ℕ) → Delays
line_table lines class width =
    let line = slice_index_or lines (place_of class) (0, 0) in on_line line.0 line.1 width

-- the table of a list: for each class in order the delays of the widths from 1 to 128
abbrev pub list_table : List ℕ → Delays
list_table delays class width = slice_index delays (128 * place_of class + (width - 1))

-- the ledger of a list with the number of each class, in order
abbrev pub listed_ledger : List ℕ → Ledger
listed_ledger charged class = slice_index charged (place_of class)

-- bases and steps that lines may have
abbrev pub AreLines : List (ℕ × ℕ) → Type 0
AreLines = All (λ line. IsLine line.0 line.1)
