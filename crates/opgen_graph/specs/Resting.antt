-- Multiples of an input are zero before cycle 0.
use Rattle.std.specs.Prelude.{◌≡◌, ℕ, pos, negsuc, All}
use Rattle.opgen_num.specs.declared.format.Format.{Format}
use Rattle.opgen_num.specs.Words.{val}
use Rattle.opgen_design.specs.Run.{AreWords}
use Rattle.opgen_net.specs.declared.net.Net.{Net}
use Rattle.opgen_net.specs.Flow.{Inputs, flow}
use Rattle.opgen_net.specs.Grown.{HasGrown}
use Rattle.opgen_net.specs.Valid.{input_widths}
use Rattle.opgen_graph.specs.declared.multiples.Multiple.{Multiple}
use Rattle.opgen_graph.specs.Placing.{IsMultiple}
use Rattle.opgen_graph.specs.Recipe.{with_input}

-- in a net that has grown out of the input each multiple is zero at every time before cycle 0
abbrev pub MultiplesRest : Type 0
MultiplesRest = (input : Format) (net : Net) (m : Multiple) → HasGrown (with_input input) net → IsMultiple input net m
    → (inputs : Inputs) (t : ℕ) → All (AreWords (input_widths net)) inputs → val (flow net.nodes inputs m.node (negsuc t)) input ≡ pos 0
