-- The nodes of a compressor tree (L. Dadda, Some schemes for parallel multipliers, 1965): full and half adders reduce the columns
-- of a heap, over falling heights, to two bits each, and one adder adds the two rows that are left.
use Rattle.std.specs.Prelude.{ℕ, zero, suc, ◌+◌, ◌-◌, ◌/◌, Bool, true, false, List, [], ◌∷◌, ◌++◌, length, map, filter, reverse, drop, max, nat_lt, slice_index_or, if◌then◌else◌}
use Rattle.opgen_num.specs.Words.{word}
use Rattle.opgen_heap.specs.Contents.{Contents}
use Rattle.opgen_net.specs.declared.cell.Class.TheVariants.{Add}
use Rattle.opgen_design.specs.declared.expr.Op.TheVariants.{Plus}
use Rattle.opgen_net.specs.declared.net.Net.{Net}
use Rattle.opgen_net.specs.declared.node.Node.TheVariants.{Cells}
use Rattle.opgen_net.specs.declared.word_bits.WordBit.{WordBit}
use Rattle.opgen_net.specs.declared.word_bits.WordBit.TheVariants.{Zero, One}
use Rattle.opgen_design.specs.Tree.{name}
use Rattle.opgen_net.specs.Placed.{Placed, with_bits, with_last}
use Rattle.opgen_compress.specs.Adder.{Work, work, two, full_adder, half_adder}

abbrev pub Column : Type 0
Column = List WordBit

-- the bits of a constant go to the ends of the columns, the lowest to the first
abbrev pub one_if : Bool → Column
one_if true = One ∷ []
one_if false = []

abbrev pub with_ones : List Bool → List Column → List Column
with_ones [] columns = []
with_ones (b ∷ bits) columns = (slice_index_or columns 0 [] ++ one_if b) ∷ with_ones bits (drop 1 columns)

-- as many columns as the heap is wide
abbrev pub all_columns : Contents → List Column
all_columns heap = with_ones (word heap.width heap.constant) heap.columns

-- a column with so many bits too many: a full adder takes away two of them, and a half adder one
abbrev pub reduced : (excess : ℕ) → (top : Bool) → Work → Work
reduced zero top w = w
reduced (suc zero) top w = half_adder top w.net w.column w.carries
reduced (suc (suc excess)) top w = reduced excess top (full_adder top w.net w.column w.carries)

-- a column that is brought down to a height, and what it carries
abbrev pub column_lowered : (height : ℕ) → (top : Bool) → Net → Column → Work
column_lowered height top net column = reduced (length column - height) top (work net column [])

-- a net, and the columns of a heap in it
pub record State : Type 0 where
  pub net : Net
  pub columns : List Column

abbrev pub under : Column → State → State
under column s = record { net = s.net; columns = column ∷ s.columns }

abbrev pub is_none : List Column → Bool
is_none [] = true
is_none _ = false

-- the columns from the lowest up are brought down to a height; each takes the carries of the one before
abbrev pub pass : (height : ℕ) → Net → (carries : Column) → List Column → State
pass height net carries [] = record { net = net; columns = [] }
pass height net carries (column ∷ columns) =
    let w = column_lowered height (is_none columns) net (column ++ carries) in
    under w.column (pass height w.net w.carries columns)

abbrev pub passes : (heights : List ℕ) → Net → List Column → State
passes [] net columns = record { net = net; columns = columns }
passes (height ∷ heights) net columns = let s = pass height net [] columns in passes heights s.net s.columns

-- 2, 3, 4, 6, 9, 13 and so on: each one and a half times the one before, rounded down
abbrev pub height : ℕ → ℕ
height zero = 2
height (suc k) = height k + height k / 2

-- the first so many heights, falling
abbrev pub falling : ℕ → List ℕ
falling zero = []
falling (suc k) = height k ∷ falling k

-- the heights that are less than a number of bits, falling; the height of each place is greater than the place, so the first so many have them all
abbrev pub heights_below : ℕ → List ℕ
heights_below bits = filter (λ h. nat_lt h bits) (falling bits)

-- the number of bits in the fullest column
abbrev pub fullest : List Column → ℕ
fullest [] = 0
fullest (column ∷ columns) = max (length column) (fullest columns)

abbrev pub lowered : Net → List Column → State
lowered net columns = passes (heights_below (fullest columns)) net columns

-- the bit at a place of each column, 0 where there is none, the highest column first
abbrev pub row : (place : ℕ) → List Column → List WordBit
row place columns = reverse (map (λ column. slice_index_or column place Zero) columns)

abbrev pub is_single : List Column → Bool
is_single columns = nat_lt (fullest columns) 2

abbrev pub with_row : (place : ℕ) → State → Placed
with_row place s = with_bits s.net (row place s.columns)

abbrev pub with_sum : (width : ℕ) → Net → (a b : ℕ) → Placed
with_sum width net a b = record { net = with_last net (Cells Add width (two Plus (name a) (name b))); place = length net.nodes }

-- the word of the first bits, and, where a column has two, the word of the second bits and the sum of the words
abbrev pub finished : (width : ℕ) → State → Placed
finished width s =
    let a = with_row 0 s in
    let b = with_row 1 (record { net = a.net; columns = s.columns }) in
    if is_single s.columns then a else with_sum width b.net a.place b.place

abbrev pub compressed : Net → Contents → Placed
compressed net heap = finished heap.width (lowered net (all_columns heap))
