use Rattle.std.proofs.Common.{arith}
use Rattle.opgen_design.specs.declared.sound.Rule.TheVariants.{Cyclic}
use Rattle.opgen_design.specs.Sound.{DriverPasses}
use Rattle.opgen_design.proofs.FirstFailing.{none-failing, of-item}
use Rattle.opgen_design.proofs.SoundLaws.{declared-at, contains-at}
use Rattle.opgen_design.proofs.GroupLaws.{is-ordered}
use Rattle.opgen_design.proofs.design.Design.cyclic.Goals as goal

pub is_off_cycles-requires-clause-names : goal.is_off_cycles-requires-clause-names
is_off_cycles-requires-clause-names c = (declared-at c.args.self.now c.requires.declared c.loop-i.i c.get.result.now c.get.ensures).target

pub returns-clause-first : goal.returns-clause-first
returns-clause-first c =
    let d = c.args.self.now in
    none-failing (DriverPasses d Cyclic) d.drivers c.loop-i.i (omega (arith, c.loop-i-test.false, c.len-i-end.ensures)) c.loop-i.invariant

pub returns-clause-ordered : goal.returns-clause-ordered
returns-clause-ordered c = λ e.
    let d = c.args.self.now in
    let all = none-failing (DriverPasses d Cyclic) d.drivers c.loop-i.i
    (omega (arith, c.loop-i-test.false, c.len-i-end.ensures)) c.loop-i.invariant in
    is-ordered d c.in_ok-groups.groups.items c.in_ok-groups.ensures
    (λ k m. let a = contains-at d.drivers k m in of-item (DriverPasses d Cyclic) d.drivers a.0 k a.1 (all a.0))
