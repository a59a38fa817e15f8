use Rattle.opgen_target.proofs.Lists.{line-entered}
use Rattle.opgen_target.proofs.linear.LinearTargetTarget.retune.Goals as goal

pub returns-clause-delays : goal.returns-clause-delays
returns-clause-delays c = rw (← c.self.view_is)
    (line-entered c.self.inside.lines c.args.class c.place_of.result c.args.base c.args.per_bit c.place_of.ensures c.self.invariant.0)
