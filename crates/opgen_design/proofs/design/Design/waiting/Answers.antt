use Rattle.std.proofs.Common.{◌++◌, ◌+◌, drop, ap, ◌∙◌, arith}
use Rattle.opgen_design.specs.Order.{waiting}
use Rattle.opgen_design.proofs.OrderLaws.{waiting-more, waiting-all}
use Rattle.opgen_design.proofs.design.Design.waiting.Goals as goal

pub loop-i-preserved : goal.loop-i-preserved
loop-i-preserved c =
    let ks = c.args.self.now.drivers in
    ap (λ x. x ++ waiting (c.loop-i.i + 1) (drop (c.loop-i.i + 1) ks)) c.in_ok-add_waiting.ensures
    ∙ waiting-more ks c.loop-i.i c.get.result.now c.get.ensures c.loop-i.found.items ∙ c.loop-i.invariant

pub returns : goal.returns
returns c = waiting-all c.args.self.now.drivers c.loop-i.i c.loop-i.found.items
    (omega (arith, c.loop-i-test.false, c.len-i-end.ensures)) c.loop-i.invariant
