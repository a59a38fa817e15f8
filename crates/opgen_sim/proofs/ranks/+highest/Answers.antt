use Rattle.std.proofs.Common.{get_or, arith}
use Rattle.opgen_sim.proofs.RankLaws.{highest-more}
use Rattle.opgen_sim.proofs.ranks.+highest.Goals as goal

pub highest_of-loop-operand-preserved : goal.highest_of-loop-operand-preserved
highest_of-loop-operand-preserved t c =
    let more = highest-more (λ s. get_or c.args.ranks.now s 0) c.args.operands.now c.loop-operand.operand-index c.operand-item.result
    c.loop-operand-test.true c.operand-item.is in
    omega (arith, more, c.loop-operand.invariant, c.highest.ensures, c.max-most.ensures)
