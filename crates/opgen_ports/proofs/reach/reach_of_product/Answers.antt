use Rattle.std.proofs.Common.{arith}
use Rattle.opgen_ports.proofs.Bounds.{products}
use Rattle.opgen_ports.proofs.reach.reach_of_product.Goals as goal

pub returns-clause-below : goal.returns-clause-below
returns-clause-below c =
    let v = c.args.a.width in
    let w = c.args.b.width in
    let first = products c.reach_of-a.result.below c.reach_of-b.result.above v w c.reach_of-a.ensures.below c.reach_of-b.ensures.above in
    let second = products c.reach_of-a.result.above c.reach_of-b.result.below v w c.reach_of-a.ensures.above c.reach_of-b.ensures.below in
    omega (arith, first, second, c.max.ensures)

pub returns-clause-above : goal.returns-clause-above
returns-clause-above c =
    let v = c.args.a.width in
    let w = c.args.b.width in
    let first = products c.reach_of-a.result.above c.reach_of-b.result.above v w c.reach_of-a.ensures.above c.reach_of-b.ensures.above in
    let second = products c.reach_of-a.result.below c.reach_of-b.result.below v w c.reach_of-a.ensures.below c.reach_of-b.ensures.below in
    omega (arith, first, second, c.max-2.ensures)
