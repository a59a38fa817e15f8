use Rattle.std.proofs.Common.{◌+◌, arith}
use Rattle.opgen_num.proofs.BitLength.{power_order}
use Rattle.opgen_ports.proofs.Bounds.{reach_bound}
use Rattle.opgen_ports.proofs.reach.reach_over.Goals as goal

pub overflow_add-result : goal.overflow_add-result
overflow_add-result c =
    let bound = reach_bound c.sides-coefs.result.above c.sides-coefs.result.below c.reach_of-input.result.below c.reach_of-input.result.above
    c.args.input.width (omega arith) (omega arith) c.reach_of-input.ensures.below c.reach_of-input.ensures.above in
    omega (arith, bound, power_order (c.args.input.width + 39) 87 (omega (arith, c.requires.input.most)))

pub overflow_add-result-2 : goal.overflow_add-result-2
overflow_add-result-2 c =
    let bound = reach_bound c.sides-coefs.result.above c.sides-coefs.result.below c.reach_of-input.result.above c.reach_of-input.result.below
    c.args.input.width (omega arith) (omega arith) c.reach_of-input.ensures.above c.reach_of-input.ensures.below in
    omega (arith, bound, power_order (c.args.input.width + 39) 87 (omega (arith, c.requires.input.most)))

pub returns-clause-below : goal.returns-clause-below
returns-clause-below c =
    reach_bound c.sides-coefs.result.above c.sides-coefs.result.below c.reach_of-input.result.below c.reach_of-input.result.above c.args.input.width
    (omega arith) (omega arith) c.reach_of-input.ensures.below c.reach_of-input.ensures.above

pub returns-clause-above : goal.returns-clause-above
returns-clause-above c =
    reach_bound c.sides-coefs.result.above c.sides-coefs.result.below c.reach_of-input.result.above c.reach_of-input.result.below c.args.input.width
    (omega arith) (omega arith) c.reach_of-input.ensures.above c.reach_of-input.ensures.below
