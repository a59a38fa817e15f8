-- What the bits of a sum in pieces are, and what the nodes are that were appended for it.
use Rattle.std.specs.Prelude.{ℕ, ◌≡◌, ◌≤◌, ℤ, Bool, All, List, length, drop, slice_index}
use Rattle.opgen_design.specs.Run.{AreWords}
use Rattle.opgen_design.specs.Value.{IsWidth, combined}
use Rattle.opgen_net.specs.declared.cell.Class.TheVariants.{Add}
use Rattle.opgen_net.specs.declared.net.Net.{Net}
use Rattle.opgen_net.specs.declared.node.Node.{Node}
use Rattle.opgen_net.specs.declared.node.Node.TheVariants.{Cells}
use Rattle.opgen_net.specs.declared.word_bits.WordBit.{WordBit}
use Rattle.opgen_net.specs.declared.word_bits.WordBit.TheVariants.{Zero, One, Of}
use Rattle.opgen_net.specs.Delays.{delays}
use Rattle.opgen_net.specs.Flow.{Inputs}
use Rattle.opgen_net.specs.Valid.{input_widths, widths}
use Rattle.opgen_net.specs.WordRule.{IsThere, word_flow}
use Rattle.opgen_pieces.specs.Recipe.{operator}

-- the bits of two words of the same width, which stand in a net
pub record AreOperands (net : Net) (first second : List WordBit) : Type 0 where
  pub width : IsWidth (length first)
  pub alike : length second ≡ length first
  pub first_there : All (IsThere (widths net.nodes)) first
  pub second_there : All (IsThere (widths net.nodes)) second

-- bits that have in a net at every time, for all inputs, the sum or the difference of two words of the net before it
abbrev pub HasSum : (is_minus : Bool) → (first second : List WordBit) → (before : Net) → (bits : List WordBit) → (after : Net) → Type 0
HasSum is_minus first second before bits after =
    (inputs : Inputs) (t : ℤ) → All (AreWords (input_widths before)) inputs
    → word_flow after.nodes inputs bits t
    ≡ combined (operator is_minus) (word_flow before.nodes inputs first t) (word_flow before.nodes inputs second t)

-- a cell of class add, of at most so many bits
abbrev pub IsNarrow : (most : ℕ) → Node → Type 0
IsNarrow most (Cells Add width e) = width ≤ most
IsNarrow most _ = ⊥

-- each node that was appended is such a cell
abbrev pub AppendsNarrow : (most : ℕ) → (before after : Net) → Type 0
AppendsNarrow most before after = All (IsNarrow most) (drop (length before.nodes) after.nodes)

-- the most delays on a way to a bit, by those of each node
abbrev pub bit_delays : List ℕ → WordBit → ℕ
bit_delays ds (Of node index) = slice_index ds node
bit_delays ds Zero = 0
bit_delays ds One = 0

-- no way to these bits passes more delays than so many
abbrev pub BitsPassAtMost : (most : ℕ) → Net → List WordBit → Type 0
BitsPassAtMost most net bits = All (λ b. bit_delays (delays net.nodes) b ≤ most) bits

-- no way to a node that was appended, or to a bit of the result, passes more delays than one to a bit of the two words
pub record PassesNoMore (first second : List WordBit) (before : Net) (made : List WordBit) (after : Net) : Type 0 where
  pub nodes :
      (most : ℕ) → BitsPassAtMost most before first → BitsPassAtMost most before second
      → All (λ d. d ≤ most) (drop (length before.nodes) (delays after.nodes))
  pub bits : (most : ℕ) → BitsPassAtMost most before first → BitsPassAtMost most before second → BitsPassAtMost most after made
