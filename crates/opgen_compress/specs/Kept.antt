-- Compression keeps the sum of the heap.
use Rattle.std.specs.Prelude.{ℕ, ◌≡◌, ◌%◌, ◌^◌, ℤ, All, List}
use Rattle.opgen_num.specs.Words.{nat}
use Rattle.opgen_heap.specs.Contents.{Contents}
use Rattle.opgen_heap.specs.Sum.{Words, columns_sum, heap_sum}
use Rattle.opgen_net.specs.declared.net.Net.{Net}
use Rattle.opgen_net.specs.declared.node.Node.{Node}
use Rattle.opgen_net.specs.declared.word_bits.WordBit.{WordBit}
use Rattle.opgen_net.specs.Flow.{Inputs, flow}
use Rattle.opgen_design.specs.Run.{AreWords}
use Rattle.opgen_net.specs.Valid.{widths, input_widths}
use Rattle.opgen_net.specs.WordRule.{IsThere}
use Rattle.opgen_compress.specs.Adder.{Work}

-- the bits of a column that is being reduced are bits of nodes of the net
pub record WorkThere (w : Work) : Type 0 where
  pub column : All (IsThere (widths w.net.nodes)) w.column
  pub carries : All (IsThere (widths w.net.nodes)) w.carries

-- the words of a net's nodes at a time
abbrev pub words_at : List Node → Inputs → ℤ → Words
words_at nodes inputs t = λ n. flow nodes inputs n t

-- a node whose word is at every time the sum of 2 ^ i over the bits of each column i that are 1, modulo 2 ^ width
abbrev pub IsSumOfColumns : (before : Net) → List (List WordBit) → (width : ℕ) → (after : List Node) → ℕ → Type 0
IsSumOfColumns before columns width after n =
    (inputs : Inputs) (t : ℤ) → All (AreWords (input_widths before)) inputs
    → nat (flow after inputs n t) ≡ columns_sum (words_at before.nodes inputs t) columns % 2 ^ width

-- a node whose word is at every time the number of the heap's sum over the net before, whatever words of their widths the inputs are
abbrev pub IsSumOf : (before : Net) → Contents → (after : List Node) → ℕ → Type 0
IsSumOf before heap after n =
    (inputs : Inputs) (t : ℤ) → All (AreWords (input_widths before)) inputs
    → nat (flow after inputs n t) ≡ heap_sum (words_at before.nodes inputs t) heap
