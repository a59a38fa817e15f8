use Rattle.std.proofs.Common.{sym, ap, ◌≡◌, ◌+◌, subst, length}
use Rattle.opgen_design.specs.Rules.{IsDrivenAt}
use Rattle.opgen_design.specs.declared.design.Target.TheVariants.{Port as port_of}
use Rattle.opgen_design.proofs.SoundLaws.{driven-target}
use Rattle.opgen_design.proofs.design.Design.is_port_driven.Goals as goal

pub returns-in-Out : goal.returns-in-Out
returns-in-Out c =
    let d = c.args.self.now in
    let t = driven-target d c.requires.declared c.args.firsts.now c.requires.firsts (port_of c.args.place) c.requires.place in
    let e : c.len.result + c.args.place ≡ length d.signals + c.args.place = ap (λ n. n + c.args.place) c.len.ensures in (
      (λ h o. t.0 (subst (IsDrivenAt d) e (c.is_driven.ensures.0 h))),
      (λ h. c.is_driven.ensures.1 (subst (IsDrivenAt d) (sym e) (t.1 (h c.in-Out.is)))),
    )
