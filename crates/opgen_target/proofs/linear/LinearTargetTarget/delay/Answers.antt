use Rattle.std.proofs.Common.{arith}
use Rattle.opgen_target.proofs.Lists.{line-bounded, product_below}
use Rattle.opgen_target.proofs.linear.LinearTargetTarget.delay.Goals as goal

pub overflow_mul-result : goal.overflow_mul-result
overflow_mul-result c =
    let line = line-bounded c.self.inside.lines c.args.cell.class c.place_of.result c.place_of.ensures c.self.invariant.0 c.self.invariant.1
    in
    let product = product_below _ _ line.1 c.requires.1 in
    omega (arith, product)

pub overflow_add-result : goal.overflow_add-result
overflow_add-result c =
    let line = line-bounded c.self.inside.lines c.args.cell.class c.place_of.result c.place_of.ensures c.self.invariant.0 c.self.invariant.1
    in
    let product = product_below _ _ line.1 c.requires.1 in
    omega (arith, product, line.0)
