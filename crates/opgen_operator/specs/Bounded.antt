-- Bounds that every valid specification keeps: port widths, shift and exact values.
use Rattle.std.specs.Prelude.{ℕ, ◌≤◌, ◌≤ℤ◌, All, ◌<◌, ℤ, neg_ℤ, length}
use Rattle.opgen_num.specs.declared.format.TheConstants.{MAX_INPUT, MAX_WIDTH}
use Rattle.opgen_kinds.specs.declared.sum.Sum.{Sum}
use Rattle.opgen_operator.specs.declared.operator.Operator.{Operator}
use Rattle.opgen_operator.specs.declared.operator.Operator.TheVariants.{Scale}
use Rattle.opgen_operator.specs.declared.spec.Spec.{Spec}
use Rattle.opgen_ports.specs.declared.TheConstants.{MAX_SHIFT}
use Rattle.opgen_kinds.specs.Sum.{IsAcceptedSum}
use Rattle.opgen_ports.specs.Limits.{most_input, most_signal}
use Rattle.opgen_operator.specs.Outputs.{inputs_of, outputs_of}
use Rattle.opgen_operator.specs.Operator.{shift, least_shift, most_shift, HasRoom, IsAccepted, IsExactIn128}
use Rattle.opgen_ports.specs.Ports.{HasWidth, format_at, Recent}
use Rattle.opgen_ports.specs.Spans.{IsOf}
use Rattle.opgen_operator.specs.Valid.{IsValidSpec}

-- no version's limits are beyond those of the program
abbrev pub LimitsAreWithin : Type 0
LimitsAreWithin = (version : ℕ) → (most_input version ≤ MAX_INPUT) × (most_signal version ≤ MAX_WIDTH)

-- an input port is as wide as an input of the version may be, and an output port as a signal
abbrev pub InputsAreWide : Type 0
InputsAreWide = (spec : Spec) → IsValidSpec spec → All (HasWidth (most_input spec.version)) (inputs_of spec)

abbrev pub OutputsAreWide : Type 0
OutputsAreWide = (spec : Spec) → IsValidSpec spec → All (HasWidth (most_signal spec.version)) (outputs_of spec)

-- from one whole number to another
abbrev pub IsFromTo : (low high n : ℤ) → Type 0
IsFromTo low high n = (low ≤ℤ n) × (n ≤ℤ high)

-- the shift is within the limits of the kind in the version, which are within those of all versions
pub record IsShiftSmall (version : ℕ) (op : Operator) : Type 0 where
  pub within : IsFromTo (least_shift op) (most_shift version op) (shift op)
  pub small : IsFromTo (neg_ℤ MAX_SHIFT) MAX_SHIFT (shift op)

abbrev pub ShiftsAreSmall : Type 0
ShiftsAreSmall = (spec : Spec) → IsValidSpec spec → IsShiftSmall spec.version spec.op

-- in every cycle, the number of each input port is one of the port's format
abbrev pub AreOfInputs : Spec → (inputs : (port : ℕ) → Recent) → Type 0
AreOfInputs spec inputs =
    (port ago : ℕ) → port < length (inputs_of spec) → IsOf (format_at (inputs_of spec) port) (inputs port ago)

abbrev pub ExactValuesAreIn128 : Type 0
ExactValuesAreIn128 =
    (spec : Spec) → IsValidSpec spec → (inputs : (port : ℕ) → Recent) → AreOfInputs spec inputs → IsExactIn128 spec.op inputs

-- The operator of a valid specification is accepted; and a sum that is accepted as a multiple of its input is one by its fields.
pub record ValidAreAccepted : Type 0 where
  pub operators : (spec : Spec) → IsValidSpec spec → IsAccepted spec.op
  pub multiples : (s : Sum) → IsAccepted (Scale s) → IsAcceptedSum s

-- Every accepted sum has room in 128 bits.
abbrev pub AcceptedHaveRoom : Type 0
AcceptedHaveRoom = (op : Operator) → IsAccepted op → HasRoom op
