-- The net of a specification by that of its operator: where the specification chooses a width, the output is brought into its
-- range, or wraps.
use Rattle.std.specs.Prelude.{ℕ, Option, Some, None}
use Rattle.opgen_net.specs.declared.net.Net.{Net}
use Rattle.opgen_operator.specs.declared.spec.Spec.{Spec}
use Rattle.opgen_operator.specs.Operator.{operator_outputs}
use Rattle.opgen_operator.specs.Outputs.{outputs_of}
use Rattle.opgen_ports.specs.Ports.{format_at}
use Rattle.opgen_saturate.specs.Output.{converted_net}

abbrev pub cut_by : (width : Option ℕ) → Spec → Net → Net
cut_by None spec net = net
cut_by (Some width) spec net = converted_net spec.overflow (format_at (operator_outputs spec.op) 0) (format_at (outputs_of spec) 0) net

abbrev pub cut_net : Spec → Net → Net
cut_net spec net = cut_by spec.out_width spec net
