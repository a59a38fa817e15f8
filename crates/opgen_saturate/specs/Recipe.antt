-- The nodes that give the number of a node another format. To bring it into the range: a test of the bits that are dropped, and the
-- choice of the least or the greatest number where they say that it lies outside. Where the other format holds every number, the node
-- is extended by copies of its sign, or zeros. A number that wraps has the lowest bits alone, extended so.
use Rattle.std.specs.Prelude.{ℕ, zero, suc, ◌+◌, ◌-◌, ◌/◌, ◌%◌, ◌^◌, min, Bool, ◌&&◌, List, [], ◌∷◌, ◌++◌, length, nat_le, replicate, if◌then◌else◌}
use Rattle.opgen_num.specs.declared.format.Format.{Format}
use Rattle.opgen_num.specs.declared.mode.Overflow.{Overflow}
use Rattle.opgen_num.specs.declared.mode.Overflow.TheVariants.{Saturate, Wrap}
use Rattle.opgen_num.specs.Words.{word}
use Rattle.opgen_design.specs.declared.expr.Op.{Op}
use Rattle.opgen_design.specs.declared.expr.Op.TheVariants.{And, Or}
use Rattle.opgen_design.specs.Plain.{trees_of}
use Rattle.opgen_design.specs.Tree.{Tree, Trees, name, part, inverse, chain, none, more}
use Rattle.opgen_net.specs.declared.cell.Class.TheVariants.{Wire, Logic}
use Rattle.opgen_net.specs.declared.net.Net.{Net}
use Rattle.opgen_net.specs.declared.node.Node.TheVariants.{Constant, Cells, Choice}
use Rattle.opgen_net.specs.declared.word_bits.WordBit.{WordBit}
use Rattle.opgen_net.specs.declared.word_bits.WordBit.TheVariants.{Zero, Of}
use Rattle.opgen_net.specs.Placed.{Placed, with_bits, with_last, whole}
use Rattle.opgen_net.specs.WordRule.{bits_from}

-- how many bits of a format count up from 0: all but a sign
abbrev pub counting : Format → ℕ
counting to = if to.signed then to.width - 1 else to.width

-- every number of the one format is a number of the other
abbrev pub is_wider : (format to : Format) → Bool
is_wider format to = if format.signed then to.signed && nat_le format.width to.width else nat_le format.width (counting to)

-- a node's bits from the lowest up, as many as are asked for; above its own stand copies of its sign, or zeros
abbrev pub fill : (node : ℕ) → Format → WordBit
fill node format = if format.signed then Of node (format.width - 1) else Zero

abbrev pub resized : (node : ℕ) → (format : Format) → (width : ℕ) → List WordBit
resized node format width = replicate (width - format.width) (fill node format) ++ bits_from node 0 (min width format.width)

-- the lowest of the bits that have to be 0, or all equal; the sign of a signed number is one of them
abbrev pub first_dropped : (format to : Format) → ℕ
first_dropped format to = if format.signed then min (counting to) (format.width - 1) else counting to

abbrev pub bit_of : (node place : ℕ) → Tree
bit_of node place = part node place place

-- so many operands from a place up, the highest first
abbrev pub operands : (operand : ℕ → Tree) → (low count : ℕ) → List Tree
operands operand low zero = []
operands operand low (suc k) = operand (low + k) ∷ operands operand low k

-- so many bits of a node from a place up
abbrev pub bit_list : (node low count : ℕ) → List Tree
bit_list node low count = operands (bit_of node) low count

abbrev pub bits_of : (node low count : ℕ) → Trees
bits_of node low count = trees_of (bit_list node low count)

-- one bit stands by itself, several stand in a chain
abbrev pub joined : Op → (node low count : ℕ) → Tree
joined op node low (suc zero) = bit_of node low
joined op node low count = chain op (bits_of node low count)

-- 1 where one of so many bits is 1, and not all are where both formats are signed
abbrev pub differs : (both : Bool) → (node low count : ℕ) → Tree
differs both node low count =
    if both
    then chain And (more (joined Or node low count) (more (inverse (joined And node low count)) none))
    else joined Or node low count

-- The bits fall into groups of six neighbours, and fewer in the last. The next group starts so far above. Where both formats are signed
-- neighbouring groups share a bit, so that all bits are equal where they are equal in each group.
abbrev pub stride : (both : Bool) → ℕ
stride both = if both then 5 else 6

-- how many groups of so many bits have another behind them
abbrev pub followed : (both : Bool) → (count : ℕ) → ℕ
followed both count = if both then (count - 2) / 5 else (count - 1) / 6

-- a cell for each group of so many bits, of which so many have another behind them
abbrev pub with_row : (groups : ℕ) → (both : Bool) → (node low count : ℕ) → Net → Net
with_row zero both node low count net = with_last net (Cells Logic 1 (differs both node low count))
with_row (suc k) both node low count net =
    with_row k both node (low + stride both) (count - stride both) (with_last net (Cells Logic 1 (differs both node low 6)))

-- so many nodes from a place up
abbrev pub node_list : (first count : ℕ) → List Tree
node_list first count = operands name first count

-- 1 where one of so many nodes of one bit is 1
abbrev pub any_node : (first count : ℕ) → Tree
any_node first count = chain Or (trees_of (node_list first count))

-- how many cells join so many nodes to one
abbrev pub joins : (left : ℕ) → ℕ
joins left = (left + 3) / 5

-- how many of so many nodes the next cell joins: so many that each cell behind it joins six
abbrev pub share : (left : ℕ) → ℕ
share left = (left - 2) % 5 + 2

-- the nodes of one bit from a place to the end of a net, joined by so many cells, which are joined too
abbrev pub with_joins : (cells : ℕ) → (first : ℕ) → Net → Net
with_joins zero first net = net
with_joins (suc k) first net =
    let count = share (length net.nodes - first) in
    with_joins k (first + count) (with_last net (Cells Logic 1 (any_node first count)))

-- The last node is 1 where one of so many bits is 1, and not all are where both formats are signed. At most as many cells stand one
-- behind the other as the logarithm of the number of bits to base 6, rounded up, and one more: the worked cases take each number.
abbrev pub with_tree : (both : Bool) → (node low count : ℕ) → Net → Net
with_tree both node low count net =
    let n = length net.nodes in
    let row = with_row (followed both count) both node low count net in
    with_joins (joins (length row.nodes - n)) n row

abbrev pub least_word : Format → List Bool
least_word to = word to.width (if to.signed then 2 ^ (to.width - 1) else 0)

abbrev pub greatest_word : Format → List Bool
greatest_word to = word to.width (2 ^ counting to - 1)

-- the least number where the sign is 1, and else the greatest
abbrev pub with_sign : (node : ℕ) → (format : Format) → Net → Net
with_sign node format net = with_last net (Cells Wire 1 (bit_of node (format.width - 1)))

abbrev pub with_ends : (node : ℕ) → (format to : Format) → Net → Net
with_ends node format to net = with_last (with_last (with_sign node format net) (Constant (least_word to))) (Constant (greatest_word to))

abbrev pub with_limit : (node : ℕ) → (format to : Format) → Net → Placed
with_limit node format to net =
    let n = length net.nodes in
    if format.signed
    then record {
      net = with_last (with_ends node format to net) (Choice n (whole to.width (n + 1)) (whole to.width (n + 2)));
      place = n + 3;
    }
    else record { net = with_last net (Constant (greatest_word to)); place = n }

-- the last node is 1 where the number lies outside
abbrev pub with_test : (node : ℕ) → (format to : Format) → Net → Net
with_test node format to net =
    let low = first_dropped format to in
    with_tree (format.signed && to.signed) node low (format.width - low) net

abbrev pub last_place : Net → ℕ
last_place net = length net.nodes - 1

-- the limit where the number lies outside, and else the lowest bits
abbrev pub with_choice : (node : ℕ) → (format to : Format) → Net → Placed
with_choice node format to net =
    let tested = with_test node format to net in
    let limit = with_limit node format to tested in
    let low = with_bits limit.net (resized node format to.width) in
    record {
      net = with_last low.net (Choice (last_place tested) (whole to.width limit.place) (whole to.width low.place));
      place = length low.net.nodes;
    }

-- the lowest bits, as many as the other format has
abbrev pub with_wrapped : (node : ℕ) → (format to : Format) → Net → Placed
with_wrapped node format to net = with_bits net (resized node format to.width)

abbrev pub with_saturated : (node : ℕ) → (format to : Format) → Net → Placed
with_saturated node format to net = if is_wider format to then with_wrapped node format to net else with_choice node format to net

-- by what becomes of a number that the other format does not hold
abbrev pub with_converted : Overflow → (node : ℕ) → (format to : Format) → Net → Placed
with_converted Saturate node format to net = with_saturated node format to net
with_converted Wrap node format to net = with_wrapped node format to net
