use Rattle.std.proofs.Common.{◌≡◌, Some, sym, subst, rules}
use Rattle.opgen_num.specs.declared.format.Format.{Format}
use Rattle.opgen_num.specs.Formats.{IsWidthOf}
use Rattle.opgen_operator.specs.Operator.{operator_outputs, plain_output}
use Rattle.opgen_ports.specs.Ports.{format_at}
use Rattle.opgen_operator.proofs.Accepted.{accepted}
use Rattle.opgen_operator.proofs.Operators.{plain_is}
use Rattle.opgen_operator.proofs.Valued.{choice, plain_width, chosen_width}
use Rattle.opgen_operator.proofs.spec.Spec.cut.Goals as goal

pub returns-clause-widths : goal.returns-clause-widths
returns-clause-widths c =
    let spec = c.args.self.now in
    let width = c.in_ok-width.width in
    let is : spec.out_width ≡ Some width = search rules in
    let same : plain_output spec.op ≡ Some c.in_ok-from.from = search rules in
    let from : c.in_ok-from.from ≡ format_at (operator_outputs spec.op) 0 = plain_is spec.op c.in_ok-from.from (choice spec c.requires width is).1 same in (
      subst (λ (f : Format). IsWidthOf f.signed f.width) (sym from)
          (plain_width spec.op (accepted spec c.requires) (choice spec c.requires width is).1),
      chosen_width spec c.requires width is c.unwrap_or.result,
    )
