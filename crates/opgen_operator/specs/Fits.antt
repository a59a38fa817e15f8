-- When a net fits an operator or a specification: it is valid, has the operator's ports, no way through it passes more delays than the
-- operator's memory, and its outputs are good in each cycle.
use Rattle.std.specs.Prelude.{ℕ, ℤ, ◌≡◌, All, ◌<◌, pos, length, List, map}
use Rattle.opgen_design.specs.Run.{AreWords}
use Rattle.opgen_net.specs.declared.net.Net.{Net}
use Rattle.opgen_net.specs.Delays.{PassesAtMost}
use Rattle.opgen_net.specs.Flow.{Inputs, slice_flow}
use Rattle.opgen_net.specs.Valid.{IsValid, slice_width, input_widths}
use Rattle.opgen_num.specs.declared.mode.Mode.{Mode}
use Rattle.opgen_operator.specs.declared.operator.Operator.{Operator}
use Rattle.opgen_ports.specs.declared.ports.PortFormat.{PortFormat}
use Rattle.opgen_operator.specs.declared.spec.Spec.{Spec}
use Rattle.opgen_operator.specs.Operator.{operator_inputs, operator_outputs, memory, IsGoodOf, IsInRangeOf}
use Rattle.opgen_operator.specs.Outputs.{inputs_of, outputs_of, IsGood, IsInRange, recent_words, output_words}
use Rattle.opgen_ports.specs.Ports.{Recent}
use Rattle.opgen_operator.specs.Valid.{IsModeOf}

abbrev pub name_and_width : PortFormat → List ℕ × ℕ
name_and_width p = (p.name, p.format.width)

-- The net is valid, has these ports, looks back over no more cycles than these, and its outputs are good in each cycle whose inputs are
-- in range.
pub record FitsPorts (ins outs : List PortFormat) (memory : ℕ) (IsIn : (inputs : (port : ℕ) → Recent) → Type 0)
    (IsGood : (inputs : (port : ℕ) → Recent) (outputs : (port : ℕ) → ℤ) → Type 0) (net : Net) : Type 0 where
  pub valid : IsValid net
  pub inputs : net.inputs ≡ map name_and_width ins
  pub outputs : map (λ o. (o.name, slice_width o.from)) net.outputs ≡ map name_and_width outs
  pub delays : PassesAtMost memory net.nodes
  pub good : (inputs : Inputs) (t : ℕ) → All (AreWords (input_widths net)) inputs → t < length inputs
      → IsIn (recent_words ins inputs t)
      → IsGood (recent_words ins inputs t)
      (output_words outs (map (λ o. slice_flow net.nodes inputs o.from (pos t)) net.outputs))

-- the ports and the good outputs of an operator
abbrev pub FitsOperator : (mode : Mode) → Operator → Net → Type 0
FitsOperator mode op net = FitsPorts (operator_inputs op) (operator_outputs op) (memory op) (IsInRangeOf op) (IsGoodOf mode op) net

-- and those of a specification
abbrev pub FitsSpec : Spec → Net → Type 0
FitsSpec spec net = FitsPorts (inputs_of spec) (outputs_of spec) (memory spec.op) (IsInRange spec) (IsGood spec) net

-- What a builder of nets promises: its net fits the operator in each of its modes. A valid specification asks for one of them.
abbrev pub FitsInEachMode : Operator → Net → Type 0
FitsInEachMode op net = (mode : Mode) → IsModeOf mode op → FitsOperator mode op net
