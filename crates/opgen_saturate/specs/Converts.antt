-- When a node has at every time the number of another node in another format: brought into its range, or modulo a power of two.
use Rattle.std.specs.Prelude.{◌≡◌, ◌<◌, ◌≤◌, ℕ, ℤ, All, List, length, slice_index}
use Rattle.opgen_num.specs.declared.format.Format.{Format}
use Rattle.opgen_num.specs.declared.mode.Overflow.{Overflow}
use Rattle.opgen_num.specs.declared.mode.Overflow.TheVariants.{Saturate, Wrap}
use Rattle.opgen_num.specs.Formats.{IsWidthOf}
use Rattle.opgen_num.specs.Words.{val}
use Rattle.opgen_design.specs.Run.{AreWords}
use Rattle.opgen_net.specs.declared.net.Net.{Net}
use Rattle.opgen_net.specs.Flow.{Inputs, flow}
use Rattle.opgen_net.specs.Valid.{input_widths, widths}
use Rattle.opgen_ports.specs.Good.{saturated, IsTurned}

-- a node that is read in one format, and another format, both of widths of signals
pub record AreFormats (net : Net) (node : ℕ) (format to : Format) : Type 0 where
  pub from_width : IsWidthOf format.signed format.width
  pub to_width : IsWidthOf to.signed to.width
  pub wide : slice_index (widths net.nodes) node ≡ format.width

-- what becomes of a number in another format: it is brought into the range, or is the same modulo two to the power of the width
abbrev pub Becomes : Overflow → (to : Format) → (old new : ℤ) → Type 0
Becomes Saturate to old new = new ≡ saturated to old
Becomes Wrap to old new = IsTurned to.width old new

-- the node `place` of a net that has grown has the width of the other format, and at every time and for all inputs the number that
-- the node's number becomes in it
pub record Converts (overflow : Overflow) (before : Net) (node : ℕ) (format to : Format) (after : Net) (place : ℕ) : Type 0 where
  pub width : slice_index (widths after.nodes) place ≡ to.width
  pub number :
      (inputs : Inputs) (t : ℤ) → All (AreWords (input_widths before)) inputs
      → Becomes overflow to (val (flow before.nodes inputs node t) format) (val (flow after.nodes inputs place t) to)

-- the nodes from a place on have one bit each
abbrev pub AreBits : (ws : List ℕ) → (first : ℕ) → Type 0
AreBits ws first = (n : ℕ) → first ≤ n → n < length ws → slice_index ws n ≡ 1
