use Rattle.std.proofs.Common.{arith}
use Rattle.opgen_bound.proofs.Keeping.{splits}
use Rattle.opgen_bound.proofs.bound.Bound.split.Goals as goal

pub split_seat-seat-requires : goal.split_seat-seat-requires
split_seat-seat-requires c = (c.requires.bound, omega (arith, c.args.self.now.one_word), splits _ _ _ _ c.requires.share)
