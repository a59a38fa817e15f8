-- Which values the formats of outputs hold, and on which cycles good outputs depend.
use Rattle.std.specs.Prelude.{ℕ, ℤ, ◌≡◌, ◌≤◌}
use Rattle.opgen_num.specs.declared.mode.Mode.{Mode}
use Rattle.opgen_operator.specs.declared.operator.Operator.{Operator}
use Rattle.opgen_operator.specs.Operator.{acceptance, memory, IsGoodOf}
use Rattle.opgen_ports.specs.Ports.{Recent}

-- of every operator, those that its kind says
abbrev pub OutputsHold : Type 0
OutputsHold = (op : Operator) → (acceptance op).FormatsHold

-- Outputs that are good for some inputs are good for all that agree with them in the last cycle and in the operator's memory of
-- cycles before it.
abbrev pub OutputsRecall : Type 0
OutputsRecall = (op : Operator) (mode : Mode) (inputs others : (port : ℕ) → Recent) (outputs : (port : ℕ) → ℤ)
    → ((port ago : ℕ) → ago ≤ memory op → inputs port ago ≡ others port ago)
    → IsGoodOf mode op inputs outputs → IsGoodOf mode op others outputs
