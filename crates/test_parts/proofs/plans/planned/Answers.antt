use Rattle.test_parts.proofs.Names.{named_one}
use Rattle.test_parts.proofs.plans.planned.Goals as goal

pub plan-requires-clause-named : goal.plan-requires-clause-named
plan-requires-clause-named g c = named_one c.args.net.now c.requires.inputs c.requires.outputs
