-- The nodes of counters, and the heap after them: each counter is a table of three bits that its six bits address.
use Rattle.std.specs.Prelude.{ℕ, zero, suc, ◌+◌, ◌/◌, Bool, true, false, List, [], ◌∷◌, ◌++◌, length}
use Rattle.opgen_num.specs.Words.{digit, word}
use Rattle.opgen_heap.specs.Contents.{Contents}
use Rattle.opgen_heap.specs.Adding.{with_bit, with_row}
use Rattle.opgen_net.specs.declared.net.Net.{Net}
use Rattle.opgen_net.specs.declared.node.Node.TheVariants.{Table}
use Rattle.opgen_net.specs.Placed.{Placed, with_bits, with_last}
use Rattle.opgen_gpc.specs.declared.counter.Counter.{Counter}
use Rattle.opgen_gpc.specs.Counters.{Column, apart}

-- how many bits of a word are 1
abbrev pub ones_of : List Bool → ℕ
ones_of [] = 0
ones_of (b ∷ w) = digit b + ones_of w

-- one more where the highest of six bits is 1 and counts twice
abbrev pub once_more : (twice : Bool) → (address : ℕ) → ℕ
once_more true address = address / 32
once_more false address = 0

-- what six bits count together
abbrev pub counted_at : (twice : Bool) → (address : ℕ) → ℕ
counted_at twice address = ones_of (word 6 address) + once_more twice address

-- the rows of the first so many addresses
abbrev pub rows_below : (twice : Bool) → (count : ℕ) → List (List Bool)
rows_below twice zero = []
rows_below twice (suc k) = rows_below twice k ++ word 3 (counted_at twice k) ∷ []

abbrev pub rows : (twice : Bool) → List (List Bool)
rows twice = rows_below twice 64

-- the word of its bits, the first of them highest, and the table on it
abbrev pub with_counter : Net → Counter → Placed
with_counter net c =
    let address = with_bits net c.bits in
    record { net = with_last address.net (Table address.place (rows c.twice)); place = length address.net.nodes }

-- a net, and a heap of bits of its nodes
pub record Counting : Type 0 where
  pub net : Net
  pub heap : Contents

-- the table of each counter, and its row from the counter's column up
abbrev pub with_counters : Counting → List Counter → Counting
with_counters s [] = s
with_counters s (c ∷ cs) =
    let p = with_counter s.net c in
    with_counters (record { net = p.net; heap = with_row s.heap p.place 3 c.column }) cs

-- bits more in a column
abbrev pub with_column : Contents → (column : ℕ) → Column → Contents
with_column heap column [] = heap
with_column heap column (b ∷ bits) = with_column (with_bit heap b column) column bits

-- bits more in each column, the first of which is this one
abbrev pub with_columns : Contents → (column : ℕ) → List Column → Contents
with_columns heap column [] = heap
with_columns heap column (bits ∷ columns) = with_columns (with_column heap column bits) (column + 1) columns

-- the bits that no counter takes, with the constant of the heap
abbrev pub with_left : Contents → List Column → Contents
with_left heap left = with_columns (record { width = heap.width; constant = heap.constant; columns = [] }) 0 left

-- the bits that are left, column by column, and then the counters' rows
abbrev pub counted : Net → Contents → Counting
counted net heap =
    let a = apart 0 false heap.columns in
    with_counters (record { net = net; heap = with_left heap a.left }) a.counters

-- the counters of a heap where they are asked for, and otherwise net and heap as they are
abbrev pub counted_if : (counters : Bool) → Net → Contents → Counting
counted_if true net heap = counted net heap
counted_if false net heap = record { net = net; heap = heap }
