use Rattle.std.proofs.Common.{◌+◌, arith}
use Rattle.opgen_num.proofs.BitLength.{power_order}
use Rattle.opgen_kinds.proofs.several.constant_format.Goals as goal

pub covering-requires-clause-below : goal.covering-requires-clause-below
covering-requires-clause-below c = omega (
  arith,
  c.reach_over.ensures.below,
  power_order (c.args.input.width + 39) 120 (omega (
    arith,
    c.requires.input.most,
  )),
)

pub covering-requires-clause-above : goal.covering-requires-clause-above
covering-requires-clause-above c = omega (
  arith,
  c.reach_over.ensures.above,
  power_order (c.args.input.width + 39) 120 (omega (
    arith,
    c.requires.input.most,
  )),
)
