-- When a net is the same circuit as another: its ports are the same, and its outputs have the same words at all times.
use Rattle.std.specs.Prelude.{◌≡◌, ◌≤◌, ℕ, ℤ, Bool, All, List, map}
use Rattle.opgen_design.specs.Run.{AreWords}
use Rattle.opgen_net.specs.declared.cell.Class.TheVariants as class
use Rattle.opgen_net.specs.declared.net.Net.{Net}
use Rattle.opgen_net.specs.declared.net.Output.{Output}
use Rattle.opgen_net.specs.declared.node.Node.{Node}
use Rattle.opgen_net.specs.declared.node.Node.TheVariants.{Cells}
use Rattle.opgen_net.specs.Delays.{PassesAtMost}
use Rattle.opgen_net.specs.Flow.{Inputs, slice_flow}
use Rattle.opgen_net.specs.Valid.{input_widths, slice_width}

-- the name and the width of an output
abbrev pub port_of : Output → List ℕ × ℕ
port_of o = (o.name, slice_width o.from)

-- the words of the outputs at a time
abbrev pub words_out : Net → Inputs → ℤ → List (List Bool)
words_out net inputs t = map (λ o. slice_flow net.nodes inputs o.from t) net.outputs

-- The inputs are the same. The outputs have the same names and widths in the same order, and at every time, for all inputs of the ports'
-- widths, the same words. No way passes more delays than before.
pub record IsSameCircuit (before after : Net) : Type 0 where
  pub inputs : after.inputs ≡ before.inputs
  pub outputs : map port_of after.outputs ≡ map port_of before.outputs
  pub words : (inputs : Inputs) (t : ℤ) → All (AreWords (input_widths before)) inputs → words_out after inputs t ≡ words_out before inputs t
  pub delays : (most : ℕ) → PassesAtMost most before.nodes → PassesAtMost most after.nodes

-- a node is no sum of more than so many bits
abbrev pub HasNoWideSum : (most : ℕ) → Node → Type 0
HasNoWideSum most (Cells class.Add width e) = width ≤ most
HasNoWideSum most _ = Unit {0}
