use Rattle.std.proofs.Common.{◌≡◌, None}
use Rattle.std.specs.Prelude.{◌≤ℤ◌}
use Rattle.opgen_operator.specs.Operator.{least_shift, most_shift, shift}
use Rattle.opgen_operator.specs.declared.spec.Spec.{Spec}
use Rattle.opgen_spec.specs.Faults.{coarse}
use Rattle.opgen_operator.proofs.Operators.{room, shift_limit}
use Rattle.opgen_document.specs.Ranges.{outside}
use Rattle.opgen_spec.specs.declared.fault.SpecFault.TheVariants as fault
use Rattle.opgen_spec.proofs.Fine.{map_none}
use Rattle.opgen_document.proofs.Ranges.{inside}
use Rattle.opgen_spec.proofs.limits.too_wide.Goals as goal

in_bounds : (spec : Spec) → coarse spec ≡ None → (least_shift spec.op ≤ℤ shift spec.op) × (shift spec.op ≤ℤ most_shift spec.version spec.op)
in_bounds spec fine =
    inside (least_shift spec.op) (most_shift spec.version spec.op) (shift spec.op)
    (map_none fault.Coarse (outside (least_shift spec.op) (most_shift spec.version spec.op) (shift spec.op)) fine)

pub need-requires-clause-high : goal.need-requires-clause-high
need-requires-clause-high c =
    let spec = c.args.spec.now in
    shift_limit spec.version spec.op (in_bounds spec c.requires.fine).1

pub need-requires-clause-room : goal.need-requires-clause-room
need-requires-clause-room c =
    let spec = c.args.spec.now in
    room spec.version spec.op c.requires.inputs (in_bounds spec c.requires.fine).1
