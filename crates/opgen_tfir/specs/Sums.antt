-- The invariant of a transposed filter: the node at each tap has the weighted sum of the inputs for this tap and all later
-- ones, and half a unit of an output that leaves low bits out.
use Rattle.std.specs.Prelude.{◌≡◌, ℕ, ℤ, pos, ◌+ℤ◌, ◌-ℤ◌, false, drop, All}
use Rattle.opgen_num.specs.declared.format.Format.{Format}
use Rattle.opgen_num.specs.Words.{val, nat}
use Rattle.opgen_design.specs.Run.{AreWords}
use Rattle.opgen_net.specs.declared.net.Net.{Net}
use Rattle.opgen_net.specs.Flow.{Inputs, input_at, flow}
use Rattle.opgen_net.specs.Valid.{input_widths}
use Rattle.opgen_kinds.specs.declared.taps.Taps.{Taps}
use Rattle.opgen_ports.specs.Ports.{Recent, weighted}
use Rattle.opgen_graph.specs.declared.ranks.Graph.{Graph}
use Rattle.opgen_graph.specs.Residues.{IsResidue}
use Rattle.opgen_tfir.specs.Recipe.{all_zero, half_unit, low_bits, products_of, sum_width, sum_from}

-- the numbers of the input at a time and before it; it is zero before cycle 0
abbrev pub recent : Format → Inputs → ℤ → Recent
recent input inputs t ago = val (input_at inputs 0 input.width (t -ℤ pos ago)) input

-- At every whole time, before cycle 0 too, the node of the sum from a tap on has the inputs of that time and before it, each times
-- its tap, and half a unit of the output, modulo 2 to the node's width. Each tap up to the last that is not 0 has such a node.
abbrev pub HasSums : Taps → Graph → Net → Type 0
HasSums f graph net =
    (k : ℕ) → all_zero (drop k f.taps) ≡ false → (inputs : Inputs) (t : ℤ) → All (AreWords (input_widths net)) inputs
    → IsResidue (sum_width (products_of f graph) (drop k f.taps))
    (weighted (drop k f.taps) (recent f.input inputs t) +ℤ pos (half_unit (low_bits f)))
    (nat (flow net.nodes inputs (sum_from f graph (drop k f.taps)).place t))
