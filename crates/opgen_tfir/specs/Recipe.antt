-- The net of a transposed filter: the sum from each tap on is the sum from the next tap on, one cycle later, plus the input times
-- the tap. The products of all taps share one adder graph (de Dinechin and Kumm, Application-Specific Arithmetic). Where the output
-- has fewer places than the sum, half a unit of its last place stands in the chain from the last tap on, and the output leaves the
-- lowest bits of the whole sum out.
use Rattle.std.specs.Prelude.{ℕ, zero, suc, ◌+◌, ◌-◌, ◌^◌, Bool, true, false, not, ◌&&◌, ◌==◌, nat_eq, if◌then◌else◌, List, [], ◌∷◌, ◌++◌, length, codes, ℤ, pos, negsuc, unsigned_abs}
use Rattle.opgen_num.specs.declared.format.Format.{Format}
use Rattle.opgen_num.specs.Words.{word}
use Rattle.opgen_design.specs.Tree.{Tree}
use Rattle.opgen_net.specs.declared.cell.Class.TheVariants.{Add}
use Rattle.opgen_net.specs.declared.net.Net.{Net}
use Rattle.opgen_net.specs.declared.net.Output.{Output}
use Rattle.opgen_net.specs.declared.node.Node.TheVariants.{Cells, Constant, Delay}
use Rattle.opgen_net.specs.Placed.{Placed, difference_of, with_bits, with_last}
use Rattle.opgen_kinds.specs.declared.taps.Taps.{Taps}
use Rattle.opgen_kinds.specs.Sum.{sum_shift}
use Rattle.opgen_kinds.specs.Taps.{direct, taps_format}
use Rattle.opgen_ports.specs.declared.reach.Reach.{Reach}
use Rattle.opgen_ports.specs.Ports.{covering}
use Rattle.opgen_ports.specs.Reaches.{reach_over, places_down}
use Rattle.opgen_graph.specs.declared.ranks.Graph.{Graph}
use Rattle.opgen_graph.specs.Parts.{parts_of, with_parts}
use Rattle.opgen_graph.specs.Recipe.{Multiples, operand, sum_of, with_input, multiples_of, with_magnitude, with_constant}
use Rattle.opgen_tfir.specs.declared.products.Products.{Products}

abbrev pub all_zero : List ℤ → Bool
all_zero [] = true
all_zero (t ∷ ts) = (unsigned_abs t == 0) && all_zero ts

-- how many bits of the sum lie below the output's last place
abbrev pub low_bits : Taps → ℕ
low_bits f = places_down (sum_shift (direct f))

-- half a unit of the output's last place; none where no bit lies below it
abbrev pub half_unit : (low : ℕ) → ℕ
half_unit zero = 0
half_unit (suc n) = 2 ^ n

-- Widths.

-- how far the sum from a tap on goes, with the half unit in it
abbrev pub own_reach : Products → List ℤ → Reach
own_reach p ts = record { below = (reach_over p.input ts).below; above = (reach_over p.input ts).above + p.half }

-- the format that its own range needs
abbrev pub own_format : Products → List ℤ → Format
own_format p ts = covering (own_reach p ts) p.input.lsb

-- narrow sums have the width that their own range needs, others that of the whole sum
abbrev pub sum_width : Products → List ℤ → ℕ
sum_width p ts = if p.narrow then (own_format p ts).width else p.width

-- a node in another width
abbrev pub widened : (signed : Bool) → (from to : ℕ) → Placed → Placed
widened signed from to d =
    if nat_eq from to then d else with_bits d.net (operand signed 0 to (record { factor = 1; node = d.place; width = from }))

-- Sums.

-- the sum of two nodes, or their difference
abbrev pub result : (negative : Bool) → (a b : ℕ) → Tree
result false a b = sum_of a b
result true a b = difference_of a b

-- a product added to a node, or taken off it
abbrev pub joined : (negative : Bool) → (width node : ℕ) → Placed → Placed
joined negative width node product = record {
  net = with_last product.net (Cells Add width (result negative node product.place));
  place = length product.net.nodes;
}

-- a node, and the product of a tap added to it, or taken off it where the tap is below 0; a tap 0 leaves the node
abbrev pub with_product : Products → (width : ℕ) → ℤ → Placed → Placed
with_product p width (pos zero) before = before
with_product p width (pos (suc n)) before =
    joined false width before.place (with_magnitude p.input.signed width (record { net = before.net; known = p.parts }) (suc n))
with_product p width (negsuc n) before =
    joined true width before.place (with_magnitude p.input.signed width (record { net = before.net; known = p.parts }) (suc n))

-- half a unit
abbrev pub with_half : Products → (width : ℕ) → Net → Placed
with_half p width net = record { net = with_last net (Constant (word width p.half)); place = length net.nodes }

-- the product of the last tap other than 0, alone or with half a unit
abbrev pub first_product : Products → (width : ℕ) → Net → ℤ → Placed
first_product p width net t =
    if nat_eq p.half 0 then with_constant p.input.signed width (record { net = net; known = p.parts }) t
    else with_product p width t (with_half p width net)

-- a node, a cycle later
abbrev pub delayed : Placed → Placed
delayed sum = record { net = with_last sum.net (Delay sum.place); place = length sum.net.nodes }

-- the sum from a tap on, by that from the next tap on
abbrev pub with_tap : Products → ℤ → List ℤ → Placed → Placed
with_tap p t ts sum =
    with_product p (sum_width p (t ∷ ts)) t
    (widened (own_format p ts).signed (sum_width p ts) (sum_width p (t ∷ ts)) (delayed sum))

-- The sum from the first of these taps on: that of the last tap other than 0 is its product.
abbrev pub with_taps : Products → Net → List ℤ → Placed
with_taps p net [] = record { net = net; place = 0 }
with_taps p net (t ∷ ts) =
    if all_zero ts then first_product p (sum_width p (t ∷ ts)) net t
    else with_tap p t ts (with_taps p net ts)

-- The filter.

-- the nodes of the odd parts of the taps, by those of the graph
abbrev pub with_multiples : Taps → Graph → Multiples
with_multiples f graph =
    let m = multiples_of f.input graph in with_parts f.input m.known (record { net = m.net; known = [] }) (parts_of f.taps)

-- the sums of filters whose graph is searched for all have the width of the whole
abbrev pub products_of : Taps → Graph → Products
products_of f graph = record {
  input = f.input;
  width = low_bits f + (taps_format f).width;
  narrow = not f.searched;
  half = half_unit (low_bits f);
  parts = (with_multiples f graph).known;
}

-- the net up to the sum from a tap on
abbrev pub sum_from : Taps → Graph → List ℤ → Placed
sum_from f graph taps = with_taps (products_of f graph) (with_multiples f graph).net taps

-- the sum of all taps, in its whole width
abbrev pub whole_sum : Taps → Graph → Placed
whole_sum f graph =
    let p = products_of f graph in
    widened (own_format p f.taps).signed (sum_width p f.taps) p.width (sum_from f graph f.taps)

-- an output of a node's bits from one on
abbrev pub with_result : (low width : ℕ) → Placed → Net
with_result low width sum =
    let y : Output = record { name = codes "y"; from = record { node = sum.place; high = low + width - 1; low = low } } in
    record sum.net { outputs = sum.net.outputs ++ y ∷ [] }

-- where all taps are 0
abbrev pub zero_sum : Format → Placed
zero_sum input = record { net = with_last (with_input input) (Constant (word 1 0)); place = length (with_input input).nodes }

abbrev pub net_of_taps : Taps → Graph → Net
net_of_taps f graph =
    if all_zero f.taps then with_result 0 1 (zero_sum f.input) else with_result (low_bits f) (taps_format f).width (whole_sum f graph)
