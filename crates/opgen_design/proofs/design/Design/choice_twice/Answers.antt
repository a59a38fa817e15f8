use Rattle.std.proofs.Common.{arith}
use Rattle.opgen_design.specs.declared.sound.Rule.TheVariants.{Width, ChoiceTwice}
use Rattle.opgen_design.specs.Sound.{DriverPasses, at_driver}
use Rattle.opgen_design.proofs.FirstFailing.{none-failing, of-item}
use Rattle.opgen_design.proofs.design.Design.choice_twice.Goals as goal

pub choices_differ-requires : goal.choices_differ-requires
choices_differ-requires c =
    let d = c.args.self.now in
    of-item (DriverPasses d Width) d.drivers c.loop-i.i c.get.result.now c.get.ensures (c.requires (at_driver c.loop-i.i))

pub returns : goal.returns
returns c =
    let d = c.args.self.now in
    none-failing (DriverPasses d ChoiceTwice) d.drivers c.loop-i.i
    (omega (arith, c.loop-i-test.false, c.len-i-end.ensures)) c.loop-i.invariant
