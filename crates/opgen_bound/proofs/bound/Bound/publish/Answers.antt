use Rattle.std.proofs.Common.{arith}
use Rattle.opgen_bound.proofs.Keeping.{publishes}
use Rattle.opgen_bound.proofs.bound.Bound.publish.Goals as goal

pub fetch_min-requires : goal.fetch_min-requires
fetch_min-requires c = (c.requires, omega (arith, c.args.self.now.one_word), publishes _ _ _ _ _ _ _ c.args.pass.now.some_share)
