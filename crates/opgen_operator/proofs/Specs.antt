-- What every valid specification keeps: the widths of its ports, its shift, and exact values of 128 bits.
use Rattle.std.proofs.Common.{◌≡◌, ℕ, Option, Some, None, refl, sym, ap, subst}
use Rattle.std.specs.Prelude.{All}
use Rattle.opgen_operator.specs.Operator.{operator_outputs}
use Rattle.opgen_operator.specs.Outputs.{outputs_of, chosen_ports}
use Rattle.opgen_ports.specs.Limits.{most_signal}
use Rattle.opgen_ports.specs.Ports.{HasWidth}
use Rattle.opgen_operator.proofs.Valued.{chosen_wide}
use Rattle.opgen_operator.specs.Bounded.{InputsAreWide, OutputsAreWide, LimitsAreWithin, ShiftsAreSmall, ExactValuesAreIn128}
use Rattle.opgen_operator.proofs.Operators.{input_bits, operator_wide, shift_limit, shift_least, lawful}
use Rattle.opgen_ports.proofs.Versions.{input_limit, signal_limit}

pub inputs_wide : InputsAreWide
inputs_wide spec valid k d below = (input_bits spec.op valid.op.ranges k d below, valid.op.inputs k d below)

pub outputs_wide : OutputsAreWide
outputs_wide spec valid = go spec.out_width refl
  where
    go : (width : Option ℕ) → spec.out_width ≡ width → All (HasWidth (most_signal spec.version)) (outputs_of spec)
    go None is =
        let same : outputs_of spec ≡ operator_outputs spec.op = ap (λ w. chosen_ports w spec.out_signed (operator_outputs spec.op)) is in
        subst (All (HasWidth (most_signal spec.version))) (sym same) (operator_wide spec.version spec.op valid.op)
    go (Some width) is = chosen_wide spec valid width is

pub limits_within : LimitsAreWithin
limits_within version = (input_limit version, (signal_limit version).1)

pub shifts_small : ShiftsAreSmall
shifts_small spec valid = record {
  within = valid.op.fine;
  small = (shift_least spec.op valid.op.fine.0, shift_limit spec.version spec.op valid.op.fine.1);
}

pub exact_in128 : ExactValuesAreIn128
exact_in128 spec valid inputs of = (lawful spec.op).in128 spec.version valid.op inputs of
