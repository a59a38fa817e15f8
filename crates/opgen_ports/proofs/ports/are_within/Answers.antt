use Rattle.std.proofs.Common.{◌≤◌, arith}
use Rattle.std.proofs.lemmas.Bool.{leb-true, le-leb}
use Rattle.std.specs.Prelude.{codes}
use Rattle.opgen_ports.specs.declared.ports.PortFormat.{PortFormat}
use Rattle.opgen_ports.specs.Ports.{port}
use Rattle.opgen_ports.proofs.InputPorts.{all_two}
use Rattle.opgen_ports.proofs.ports.are_within.Goals as goal

pub returns-then-a-most : goal.returns-then-a-most
returns-then-a-most c =
    let most = c.args.most in (
      λ h. all_two (λ (p : PortFormat). p.format.width ≤ most) _ _ c.if-a-most.true (leb-true c.args.b.width most h),
      λ each. le-leb c.args.b.width most (each 1 (port (codes "b") c.args.b) (omega arith)),
    )

pub returns-else-a-most : goal.returns-else-a-most
returns-else-a-most c =
    let most = c.args.most in (
      λ h. absurd (omega (arith, leb-true c.args.a.width most h, c.if-a-most.false)),
      λ each. le-leb c.args.a.width most (each 0 (port (codes "a") c.args.a) (omega arith)),
    )
