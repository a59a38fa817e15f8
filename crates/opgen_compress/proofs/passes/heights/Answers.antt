use Rattle.std.proofs.Common.{◌/◌, ◌+◌, sym, subst, arith}
use Rattle.opgen_compress.proofs.Heights.{Rising, one_height, all_heights}
use Rattle.opgen_compress.proofs.passes.heights.Goals as goal

pub rising-preserved : goal.rising-preserved
rising-preserved c =
    subst (Rising c.args.bits (c.rising.height + c.rising.height / 2)) (sym c.in_ok-push.ensures.items)
    (one_height c.args.bits c.rising.height c.rising.all.items c.rising.invariant c.rising-test.true)

pub returns-clause-value : goal.returns-clause-value
returns-clause-value c = all_heights c.args.bits c.rising.height c.rising.all.items c.rising.invariant (omega (arith, c.rising-test.false))
