use Rattle.std.proofs.Common.{◌≤◌}
use Rattle.std.proofs.lemmas.Bool.{leb-true, le-leb}
use Rattle.opgen_ports.specs.declared.ports.PortFormat.{PortFormat}
use Rattle.opgen_ports.proofs.InputPorts.{all_one, only_within}
use Rattle.opgen_ports.proofs.ports.is_within.Goals as goal

pub returns : goal.returns
returns c =
    let most = c.args.most in
    let f = c.args.input in (
      λ h. all_one (λ (p : PortFormat). p.format.width ≤ most) _ (leb-true f.width most h),
      λ each. le-leb f.width most (only_within most f each),
    )
