-- A sum or a difference of two words in pieces of at most so many bits: the lowest places at which 0 is added or taken off are passed
-- on, and each further piece takes the carry or the borrow of the piece below it (de Dinechin and Kumm, Application-Specific
-- Arithmetic: additions cut into chunks). Bits stand from the highest down.
use Rattle.std.specs.Prelude.{ℕ, zero, suc, ◌-◌, ◌/◌, Bool, true, false, ◌&&◌, if◌then◌else◌, nat_eq, List, [], ◌∷◌, ◌++◌, length, take, drop}
use Rattle.opgen_design.specs.declared.expr.Op.{Op}
use Rattle.opgen_design.specs.declared.expr.Op.TheVariants.{Plus, Minus}
use Rattle.opgen_design.specs.Tree.{Tree, chain, none, more}
use Rattle.opgen_net.specs.declared.cell.Class.TheVariants.{Add}
use Rattle.opgen_net.specs.declared.net.Net.{Net}
use Rattle.opgen_net.specs.declared.node.Node.TheVariants.{Cells}
use Rattle.opgen_net.specs.declared.word_bits.WordBit.{WordBit}
use Rattle.opgen_net.specs.declared.word_bits.WordBit.TheVariants.{Zero, One}
use Rattle.opgen_net.specs.Placed.{with_last}
use Rattle.opgen_net.specs.Valid.{widths}
use Rattle.opgen_net.specs.WordRule.{bits_from, runs, word_tree}

-- a net, and the bits of a word in it
pub record Pieces : Type 0 where
  pub net : Net
  pub bits : List WordBit

abbrev pub operator : (is_minus : Bool) → Op
operator false = Plus
operator true = Minus

-- two words of given bits, over nodes of these widths: added, or the second taken off the first
abbrev pub sum_tree : (widths : List ℕ) → (is_minus : Bool) → (first second : List WordBit) → Tree
sum_tree ws is_minus first second =
    chain (operator is_minus) (more (word_tree ws (runs first)) (more (word_tree ws (runs second)) none))

-- a piece: one node of the sum
abbrev pub with_piece : (is_minus : Bool) → (first second : List WordBit) → Net → Pieces
with_piece is_minus first second net = record {
  net = with_last net (Cells Add (length first) (sum_tree (widths net.nodes) is_minus first second));
  bits = bits_from (length net.nodes) 0 (length first);
}

-- a piece whose operands have a 0 above, so that its highest bit is its carry or its borrow
abbrev pub with_carry : (is_minus : Bool) → (first second : List WordBit) → Net → Pieces
with_carry is_minus first second net = with_piece is_minus (Zero ∷ first) (Zero ∷ second) net

-- what a carry meets a place below a further piece's own places: 1 + c carries c, and 0 - c borrows c
abbrev pub partner : (is_minus : Bool) → WordBit
partner false = One
partner true = Zero

-- How many pieces of at most so many bits have another one above them. The lowest of these adds one place less than it has bits,
-- and each further one two places less.
abbrev pub followed : (most count : ℕ) → ℕ
followed most count = (count - 3) / (most - 2)

-- a sum in so many pieces that have another one above them, and the highest piece
abbrev pub with_pieces : (pieces most : ℕ) → (is_minus : Bool) → (first second : List WordBit) → Net → Pieces
with_pieces zero most is_minus first second net = with_piece is_minus first second net
with_pieces (suc k) most is_minus first second net =
    let above = length first - (most - 1) in
    let low = with_carry is_minus (drop above first) (drop above second) net in
    let high = with_pieces k most is_minus (take above first ++ partner is_minus ∷ []) (take above second ++ take 1 low.bits) low.net in
    record { net = high.net; bits = take above high.bits ++ drop 1 low.bits }

-- a sum of as many places as are given, if there are any
abbrev pub with_places : (most : ℕ) → (is_minus : Bool) → (first second : List WordBit) → Net → Pieces
with_places most is_minus [] second net = record { net = net; bits = [] }
with_places most is_minus (a ∷ first) second net =
    with_pieces (followed most (length (a ∷ first))) most is_minus (a ∷ first) second net

-- whether 0 is added or taken off at a place
abbrev pub is_passed : (is_minus : Bool) → (first second : WordBit) → Bool
is_passed is_minus first Zero = true
is_passed false Zero second = true
is_passed is_minus first second = false

-- the bit of the result there: that of the other operand
abbrev pub passed_bit : (first second : WordBit) → WordBit
passed_bit first Zero = first
passed_bit first second = second

abbrev pub passed_bits : (first second : List WordBit) → List WordBit
passed_bits (a ∷ first) (b ∷ second) = passed_bit a b ∷ passed_bits first second
passed_bits _ _ = []

-- how many places need a sum: all but the lowest ones, up to the first at which no 0 is added or taken off
abbrev pub summed : (is_minus : Bool) → (first second : List WordBit) → ℕ
summed is_minus (a ∷ first) (b ∷ second) =
    let rest = summed is_minus first second in
    if nat_eq rest 0 && is_passed is_minus a b then 0 else suc rest
summed is_minus _ _ = 0

-- the sum or the difference of two words of the same width
abbrev pub with_sum : (most : ℕ) → (is_minus : Bool) → (first second : List WordBit) → Net → Pieces
with_sum most is_minus first second net =
    let left = summed is_minus first second in
    let high = with_places most is_minus (take left first) (take left second) net in
    record { net = high.net; bits = high.bits ++ passed_bits (drop left first) (drop left second) }
