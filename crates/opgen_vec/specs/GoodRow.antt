-- A row of outputs judged by the definition of good outputs.
use Rattle.std.specs.Prelude.{ℕ, List}
use Rattle.opgen_operator.specs.declared.spec.Spec.{Spec}
use Rattle.opgen_operator.specs.Outputs.{IsGood, IsInRange, inputs_of, outputs_of}
use Rattle.opgen_ports.specs.Ports.{output_numbers, recent_numbers}

-- the outputs are good for the inputs of the cycles so far, or those of the last cycle are out of range
abbrev pub IsGoodRow : Spec → (inputs outputs : List ℕ) → Type 0
IsGoodRow spec inputs outputs =
    let recent = recent_numbers (inputs_of spec) inputs in
    IsInRange spec recent → IsGood spec recent (output_numbers (outputs_of spec) outputs)
