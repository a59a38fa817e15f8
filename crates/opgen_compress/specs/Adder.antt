-- The nodes of a full adder, which adds three bits of one weight, and of a half adder, which adds two.
use Rattle.std.specs.Prelude.{ℕ, Bool, true, false, List, [], ◌∷◌, ◌++◌, length}
use Rattle.opgen_net.specs.declared.cell.Class.TheVariants.{Logic}
use Rattle.opgen_design.specs.declared.expr.Op.{Op}
use Rattle.opgen_design.specs.declared.expr.Op.TheVariants.{And, Or, Xor}
use Rattle.opgen_net.specs.declared.net.Net.{Net}
use Rattle.opgen_net.specs.declared.node.Node.TheVariants.{Cells}
use Rattle.opgen_net.specs.declared.word_bits.WordBit.{WordBit}
use Rattle.opgen_net.specs.declared.word_bits.WordBit.TheVariants.{Of}
use Rattle.opgen_design.specs.Tree.{Tree, chain}
use Rattle.opgen_design.specs.Plain.{trees_of}
use Rattle.opgen_net.specs.Valid.{widths}
use Rattle.opgen_net.specs.WordRule.{alone, run_tree}

-- a bit as an operand: one that is the whole of its node is read by the node's name
abbrev pub bit_tree : WordBit → List ℕ → Tree
bit_tree b ws = run_tree ws (alone b)

abbrev pub two : Op → Tree → Tree → Tree
two op x y = chain op (trees_of (x ∷ y ∷ []))

abbrev pub three : Op → Tree → Tree → Tree → Tree
three op x y z = chain op (trees_of (x ∷ y ∷ z ∷ []))

-- expressions over bits of nodes of given widths

abbrev pub half_sum : (a b : WordBit) → List ℕ → Tree
half_sum a b ws = two Xor (bit_tree a ws) (bit_tree b ws)

abbrev pub half_carry : (a b : WordBit) → List ℕ → Tree
half_carry a b ws = two And (bit_tree a ws) (bit_tree b ws)

abbrev pub full_sum : (a b c : WordBit) → List ℕ → Tree
full_sum a b c ws = three Xor (bit_tree a ws) (bit_tree b ws) (bit_tree c ws)

-- the majority of three bits
abbrev pub full_carry : (a b c : WordBit) → List ℕ → Tree
full_carry a b c ws = three Or (half_carry a b ws) (half_carry a c ws) (half_carry b c ws)

-- a net with a node of one bit more
abbrev pub with_logic : Net → (List ℕ → Tree) → Net
with_logic net e = record net { nodes = net.nodes ++ Cells Logic 1 (e (widths net.nodes)) ∷ [] }

-- the bit of the node that comes next
abbrev pub next_bit : Net → WordBit
next_bit net = Of (length net.nodes) 0

-- a net, a column that is being reduced, and the bits that it carries to the next column
pub record Work : Type 0 where
  pub net : Net
  pub column : List WordBit
  pub carries : List WordBit

-- a column and its carries in a net
abbrev pub work : Net → (column carries : List WordBit) → Work
work net column carries = record { net = net; column = column; carries = carries }

-- the sum goes to the end of the column; the highest column has no carries
abbrev pub with_adder : (top : Bool) → (sum carry : List ℕ → Tree) → Net → (column carries : List WordBit) → Work
with_adder true sum carry net column carries = work (with_logic net sum) (column ++ next_bit net ∷ []) carries
with_adder false sum carry net column carries = record {
  net = with_logic (with_logic net sum) carry;
  column = column ++ next_bit net ∷ [];
  carries = carries ++ next_bit (with_logic net sum) ∷ [];
}

-- the first three bits of a column are added
abbrev pub full_adder : (top : Bool) → Net → (column carries : List WordBit) → Work
full_adder top net (a ∷ b ∷ c ∷ column) carries = with_adder top (full_sum a b c) (full_carry a b c) net column carries
full_adder top net column carries = work net column carries

-- the first two bits of a column are added
abbrev pub half_adder : (top : Bool) → Net → (column carries : List WordBit) → Work
half_adder top net (a ∷ b ∷ column) carries = with_adder top (half_sum a b) (half_carry a b) net column carries
half_adder top net column carries = work net column carries
