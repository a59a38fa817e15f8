use Rattle.std.proofs.Common.{arith}
use Rattle.opgen_bound.proofs.Keeping.{looks}
use Rattle.opgen_bound.proofs.bound.Bound.look.Goals as goal

pub load-requires : goal.load-requires
load-requires c = (c.requires, omega (arith, c.args.self.now.one_word), looks _ _ _ _ _ _ c.args.pass.now.some_share)
