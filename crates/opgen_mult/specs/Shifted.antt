-- A node that has the word of another node with zeros below it.
use Rattle.std.specs.Prelude.{◌≡◌, ℕ, ℤ, false, List, ◌++◌, All, replicate}
use Rattle.opgen_design.specs.Run.{AreWords}
use Rattle.opgen_net.specs.declared.net.Net.{Net}
use Rattle.opgen_net.specs.declared.node.Node.{Node}
use Rattle.opgen_net.specs.Flow.{Inputs, flow}
use Rattle.opgen_net.specs.Valid.{input_widths}

-- the node `to` has at every time the word of the node `from` above so many zeros, whatever words of their widths the inputs are
abbrev pub IsAboveZeros : (before : Net) (from zeros : ℕ) (after : List Node) (to : ℕ) → Type 0
IsAboveZeros before from zeros after to =
    (inputs : Inputs) (t : ℤ) → All (AreWords (input_widths before)) inputs
    → flow after inputs to t ≡ replicate zeros false ++ flow before.nodes inputs from t
