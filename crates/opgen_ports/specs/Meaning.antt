-- What an operator of a kind means: its ports, the inputs that it takes, its exact value and its good outputs, which each kind
-- gives; and what is answered of the outputs of one cycle.
use Rattle.std.specs.Prelude.{ℕ, Bool, Option, ℤ, List, ◌≢◌, ◌↔◌, Some, None, pos, IsTrue}
use Rattle.opgen_num.specs.declared.format.Ratio.{Ratio}
use Rattle.opgen_num.specs.declared.mode.Mode.{Mode}
use Rattle.opgen_ports.specs.declared.ports.PortFormat.{PortFormat}
use Rattle.opgen_ports.specs.Ports.{Recent, recent_numbers, output_numbers}

pub record Meaning : Type 1 where
  pub inputs : List PortFormat
  pub outputs : List PortFormat
  -- the place of the input port that must not be 0, where there is one
  pub divisor : Option ℕ
  -- Good outputs depend on the inputs of the last cycle and of so many cycles before it alone.
  pub memory : ℕ
  -- Of the kinds and modes with one output of one value: this exact value as a fraction, by the numbers of the input ports.
  pub value : Option ((inputs : (port : ℕ) → Recent) → Ratio)
  -- In a mode, by the numbers of the input ports in the last cycle and before it, and those of the output ports. Of kinds that
  -- have no outputs rounded down or to the nearest nothing is good in these modes.
  pub IsGood : (mode : Mode) → (inputs : (port : ℕ) → Recent) → (outputs : (port : ℕ) → ℤ) → Type 0

-- the last number of a port is not 0, where there is one
abbrev pub IsNonzeroAt : (port : Option ℕ) → (inputs : (port : ℕ) → Recent) → Type 0
IsNonzeroAt None inputs = Unit {0}
IsNonzeroAt (Some port) inputs = inputs port 0 ≢ pos 0

-- The outputs are good, or the inputs are out of range.
pub record IsCycleJudged (m : Meaning) (mode : Mode) (history outputs : List ℕ) (answer : Bool) : Type 0 where
  pub in_range : IsNonzeroAt m.divisor (recent_numbers m.inputs history)
      → (IsTrue answer ↔ m.IsGood mode (recent_numbers m.inputs history) (output_numbers m.outputs outputs))
  pub out_of_range : ¬ IsNonzeroAt m.divisor (recent_numbers m.inputs history) → IsTrue answer
