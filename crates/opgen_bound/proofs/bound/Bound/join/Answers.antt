use Rattle.std.proofs.Common.{arith}
use Rattle.opgen_bound.proofs.Keeping.{joins}
use Rattle.opgen_bound.proofs.bound.Bound.join.Goals as goal

pub join_seat-requires : goal.join_seat-requires
join_seat-requires c = (
  c.requires.bounds.0,
  c.requires.bounds.1,
  c.args.other.no_slots,
  omega (arith, c.args.self.now.one_word),
  joins _ _ _ _ _ _ c.args.pass.now.some_share c.args.other.some_share,
)
