-- The nodes that take a sign off a number, and that put one to it: the number is taken off zeros, and the difference or the
-- number is chosen.
use Rattle.std.specs.Prelude.{◌≡◌, ℕ, ◌+◌, ◌-◌, ◌*◌, ◌^◌, ◌<◌, Bool, List, length, slice_index, ℤ, pos, neg_ℤ, unsigned_abs, All, if◌then◌else◌}
use Rattle.opgen_num.specs.Words.{highest, int, nat, word}
use Rattle.opgen_design.specs.Run.{AreWords}
use Rattle.opgen_design.specs.Tree.{Tree, part}
use Rattle.opgen_net.specs.declared.cell.Class.TheVariants.{Add, Wire}
use Rattle.opgen_net.specs.declared.net.Net.{Net}
use Rattle.opgen_net.specs.declared.node.Node.TheVariants.{Constant, Cells, Choice}
use Rattle.opgen_net.specs.declared.word_bits.WordBit.{WordBit}
use Rattle.opgen_net.specs.Flow.{Inputs, flow}
use Rattle.opgen_net.specs.Placed.{Placed, difference_of, whole, with_bits, with_last}
use Rattle.opgen_net.specs.Valid.{input_widths, widths}

-- the highest of a node's bits
abbrev pub sign_of : (node width : ℕ) → Tree
sign_of node width = part node (width - 1) (width - 1)

-- a node taken off zeros
abbrev pub with_opposite : (node width : ℕ) → Net → Net
with_opposite node width net =
    with_last (with_last net (Constant (word width 0))) (Cells Add width (difference_of (length net.nodes) node))

-- the opposite of a node where the sign is 1, and else the node
abbrev pub with_sign : (sign node width : ℕ) → Net → Placed
with_sign sign node width net =
    let n = length net.nodes in
    record {
      net = with_last (with_opposite node width net) (Choice sign (whole width (n + 1)) (whole width node));
      place = n + 2;
    }

-- the opposite of a node where its highest bit is 1, and else the node
abbrev pub with_highest : (node width : ℕ) → Net → Net
with_highest node width net = with_last net (Cells Wire 1 (sign_of node width))

abbrev pub with_absolute : (node width : ℕ) → Net → Placed
with_absolute node width net = with_sign (length net.nodes) node width (with_highest node width net)

-- a number of given bits, or its opposite
abbrev pub with_signed : (sign : ℕ) → Net → List WordBit → Placed
with_signed sign net given = let w = with_bits net given in with_sign sign w.place (length given) w.net

-- a number, or the opposite number where a sign is 1
abbrev pub signed_by : (sign : Bool) → ℕ → ℤ
signed_by sign n = if sign then neg_ℤ (pos n) else pos n

-- The node `place` of a net that has grown has, at every time at which the highest bit of a node is 0, in two's complement the
-- number of that node, or the opposite number where the sign is 1.
pub record HasSign (before : Net) (sign node bits : ℕ) (after : Net) (place : ℕ) : Type 0 where
  pub width : slice_index (widths after.nodes) place ≡ bits
  pub number :
      (inputs : Inputs) (t : ℤ) → All (AreWords (input_widths before)) inputs
      → 2 * nat (flow before.nodes inputs node t) < 2 ^ bits
      → int (flow after.nodes inputs place t)
      ≡ signed_by (highest (flow before.nodes inputs sign t)) (nat (flow before.nodes inputs node t))

-- It has at every time the absolute value of the number that a node has in two's complement.
pub record HasAbsolute (before : Net) (node bits : ℕ) (after : Net) (place : ℕ) : Type 0 where
  pub width : slice_index (widths after.nodes) place ≡ bits
  pub number :
      (inputs : Inputs) (t : ℤ) → All (AreWords (input_widths before)) inputs
      → nat (flow after.nodes inputs place t) ≡ unsigned_abs (int (flow before.nodes inputs node t))
