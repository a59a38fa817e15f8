-- The sum of a bit heap: its bits by their weights, and its constant, modulo a power of two.
use Rattle.std.specs.Prelude.{ℕ, ◌≡◌, ◌+◌, ◌*◌, ◌%◌, ◌^◌, Bool, true, false, List, [], ◌∷◌, slice_index_or, take}
use Rattle.opgen_num.specs.Words.{digit, nat}
use Rattle.opgen_net.specs.declared.word_bits.WordBit.{WordBit}
use Rattle.opgen_net.specs.declared.word_bits.WordBit.TheVariants.{Zero, One, Of}
use Rattle.opgen_heap.specs.Contents.{Contents}

-- a word for each node
abbrev pub Words : Type 0
Words = ℕ → List Bool

abbrev pub bit_under : Words → WordBit → Bool
bit_under words Zero = false
bit_under words One = true
bit_under words (Of node index) = slice_index_or (words node) index false

-- how many of the bits are 1
abbrev pub ones : Words → List WordBit → ℕ
ones words [] = 0
ones words (b ∷ bs) = digit (bit_under words b) + ones words bs

-- the sum of 2 ^ i over the bits of each column i that are 1
abbrev pub columns_sum : Words → List (List WordBit) → ℕ
columns_sum words [] = 0
columns_sum words (c ∷ cs) = ones words c + 2 * columns_sum words cs

abbrev pub heap_sum : Words → Contents → ℕ
heap_sum words heap = (columns_sum words heap.columns + heap.constant) % 2 ^ heap.width

-- whatever words the nodes have, the heap's sum has grown by a number that they give, modulo 2 to the width
abbrev pub Gains : (old : Contents) → (gained : Words → ℕ) → (new : Contents) → Type 0
Gains old gained new = (words : Words) → heap_sum words new ≡ (heap_sum words old + gained words) % 2 ^ old.width

-- what a bit counts in a column: 2 to the column's number if it is 1, and else 0
abbrev pub bit_value : WordBit → (weight : ℕ) → Words → ℕ
bit_value b weight words = digit (bit_under words b) * 2 ^ weight

-- what the lowest bits of a node count, so many, the first in a column and each other one in the next
abbrev pub row_value : (node width weight : ℕ) → Words → ℕ
row_value node width weight words = nat (take width (words node)) * 2 ^ weight
