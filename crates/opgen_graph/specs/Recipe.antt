-- The net of several constants times one input, by the adders of a graph (de Dinechin and Kumm, Application-Specific Arithmetic).
use Rattle.std.specs.Prelude.{ℕ, zero, suc, ◌+◌, ◌-◌, Bool, List, [], ◌∷◌, ◌++◌, length, drop, replicate, codes, ℤ, pos, negsuc, nat_eq, nat_lt, if◌then◌else◌}
use Rattle.std.specs.Fmt.{decimal}
use Rattle.opgen_num.specs.declared.format.Format.{Format}
use Rattle.opgen_num.specs.Words.{word}
use Rattle.opgen_design.specs.declared.expr.Op.TheVariants.{Plus}
use Rattle.opgen_design.specs.Plain.{trees_of}
use Rattle.opgen_design.specs.Tree.{Tree, name, chain}
use Rattle.opgen_net.specs.declared.cell.Class.TheVariants.{Add}
use Rattle.opgen_net.specs.declared.net.Net.{Net}
use Rattle.opgen_net.specs.declared.net.Output.{Output}
use Rattle.opgen_net.specs.declared.node.Node.TheVariants.{Input, Constant, Cells}
use Rattle.opgen_net.specs.declared.word_bits.WordBit.{WordBit}
use Rattle.opgen_net.specs.declared.word_bits.WordBit.TheVariants.{Zero, Of}
use Rattle.opgen_net.specs.Placed.{Placed, whole, with_bits, with_last, difference_of}
use Rattle.opgen_net.specs.WordRule.{bits_from}
use Rattle.opgen_kinds.specs.declared.several.Several.{Several}
use Rattle.opgen_kinds.specs.Several.{constant_format}
use Rattle.opgen_ports.specs.OddParts.{power_of, odd_part}
use Rattle.opgen_graph.specs.declared.forms.Form.{Form}
use Rattle.opgen_graph.specs.declared.forms.Form.TheVariants.{A, B, C, D, E}
use Rattle.opgen_graph.specs.declared.multiples.Multiple.{Multiple}
use Rattle.opgen_graph.specs.declared.ranks.Adder.{Adder}
use Rattle.opgen_graph.specs.declared.ranks.Graph.{Graph}
use Rattle.opgen_graph.specs.SetCost.{bit_length}

-- A Multiple is a node that has the input times a factor. The input is node 0, and the multiple by 1.
abbrev pub with_input : Format → Net
with_input input = record { inputs = (codes "x", input.width) ∷ []; nodes = Input 0 input.width ∷ []; outputs = [] }

abbrev pub input_multiple : Format → Multiple
input_multiple input = record { factor = 1; node = 0; width = input.width }

-- the first that has the factor
abbrev pub multiple_of : List Multiple → (factor : ℕ) → Multiple
multiple_of [] f = record { factor = f; node = 0; width = 0 }
multiple_of (m ∷ ms) f = if nat_eq m.factor f then m else multiple_of ms f

-- the bit that a number goes on with above its highest: signed that bit, and else 0
abbrev pub top_bit : (signed : Bool) → Multiple → WordBit
top_bit signed m = if signed then Of m.node (m.width - 1) else Zero

-- A multiple with zeros below it, as an operand of a width: extended above by as many bits, and the lowest bits of that.
abbrev pub extended : (signed : Bool) → (zeros width : ℕ) → Multiple → List WordBit
extended signed zeros width m = replicate width (top_bit signed m) ++ (bits_from m.node 0 m.width ++ replicate zeros Zero)

abbrev pub operand : (signed : Bool) → (zeros width : ℕ) → Multiple → List WordBit
operand signed zeros width m = drop (m.width + zeros) (extended signed zeros width m)

-- Adders.

-- the zeros below the operand of u, and the bits that are dropped of the sum, which are zero
abbrev pub zeros_below : Form → (shift : ℕ) → ℕ
zeros_below D r = 0
zeros_below E r = 0
zeros_below _ i = i

abbrev pub dropped : Form → (shift : ℕ) → ℕ
dropped D r = r
dropped E r = r
dropped _ i = 0

abbrev pub sum_of : (a b : ℕ) → Tree
sum_of a b = chain Plus (trees_of (name a ∷ name b ∷ []))

-- the sum or difference of the operands a of u and b of v: in E the lesser number is taken off the greater
abbrev pub added : Form → (u v a b : ℕ) → Tree
added A u v a b = sum_of a b
added B u v a b = difference_of a b
added C u v a b = difference_of b a
added D u v a b = sum_of a b
added E u v a b = if nat_lt u v then difference_of b a else difference_of a b

-- the word of u, the word of v and the Add node
abbrev pub with_sum : (signed : Bool) → (width : ℕ) → Net → Adder → (u v : Multiple) → Placed
with_sum signed width net a u v =
    let first = with_bits net (operand signed (zeros_below a.step.form a.step.shift) width u) in
    let second = with_bits first.net (operand signed 0 width v) in
    record {
      net = with_last second.net (Cells Add width (added a.step.form a.u a.v first.place second.place));
      place = length second.net.nodes;
    }

-- the same, of the multiples of the two factors that the adder names among those that are known
abbrev pub with_known_sum : (signed : Bool) → (width : ℕ) → Net → (known : List Multiple) → Adder → Placed
with_known_sum signed width net known a = with_sum signed width net a (multiple_of known a.u) (multiple_of known a.v)

-- the bits of a node above its lowest; where none is dropped that is the node
abbrev pub without_lowest : (low width : ℕ) → Placed → Placed
without_lowest zero width sum = sum
without_lowest (suc low) width sum = with_bits sum.net (bits_from sum.place (suc low) width)

-- a net, and the multiples that it has
pub record Multiples : Type 0 where
  pub net : Net
  pub known : List Multiple

-- a net with the multiples that are known in it
abbrev pub multiples_in : Net → List Multiple → Multiples
multiples_in net known = record { net = net; known = known }

-- the multiple that an adder makes, in as many bits as the input and the factor have together
abbrev pub with_adder : Format → Multiples → Adder → Multiples
with_adder input before a =
    let width = input.width + bit_length a.value in
    let low = dropped a.step.form a.step.shift in
    let sum = with_known_sum input.signed (width + low) before.net before.known a in
    let all = without_lowest low width sum in
    record { net = all.net; known = before.known ++ record { factor = a.value; node = all.place; width = width } ∷ [] }

abbrev pub with_adders : Format → Multiples → List Adder → Multiples
with_adders input before [] = before
with_adders input before (a ∷ more) = with_adders input (with_adder input before a) more

-- the input alone
abbrev pub at_first : Format → Multiples
at_first input = record { net = with_input input; known = input_multiple input ∷ [] }

-- all adders of a graph, in their order
abbrev pub multiples_of : Format → Graph → Multiples
multiples_of input graph = with_adders input (at_first input) graph.adders

-- Constants.

-- a node taken off zeros
abbrev pub negated : (width : ℕ) → Placed → Placed
negated width p =
    let zeros = with_last p.net (Constant (word width 0)) in
    record { net = with_last zeros (Cells Add width (difference_of (length p.net.nodes) p.place)); place = length zeros.nodes }

-- the multiple by the odd part, above the zeros of the power of two
abbrev pub with_magnitude : (signed : Bool) → (width : ℕ) → Multiples → (n : ℕ) → Placed
with_magnitude signed width m n = with_bits m.net (operand signed (power_of n) width (multiple_of m.known (odd_part n)))

-- the node of a constant times the input, in a width
abbrev pub with_constant : (signed : Bool) → (width : ℕ) → Multiples → ℤ → Placed
with_constant signed width m (pos zero) = record { net = with_last m.net (Constant (word 1 0)); place = length m.net.nodes }
with_constant signed width m (pos (suc n)) = with_magnitude signed width m (suc n)
with_constant signed width m (negsuc n) = negated width (with_magnitude signed width m (suc n))

-- output k, which has the width of its port
abbrev pub with_output : Format → (k : ℕ) → Multiples → ℤ → Multiples
with_output input k m t =
    let width = (constant_format input t).width in
    let made = with_constant input.signed width m t in
    let output : Output = record { name = codes "y" ++ decimal k; from = whole width made.place } in
    record m { net = record made.net { outputs = made.net.outputs ++ output ∷ [] } }

-- an output for each constant, from a number on
abbrev pub with_outputs : Format → (k : ℕ) → Multiples → List ℤ → Net
with_outputs input k m [] = m.net
with_outputs input k m (t ∷ more) = with_outputs input (k + 1) (with_output input k m t) more

-- The adders, and then the constants.
abbrev pub net_of_graph : Graph → Several → Net
net_of_graph graph m = with_outputs m.input 0 (multiples_of m.input graph) m.constants
