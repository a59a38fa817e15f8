use Rattle.std.proofs.Common.{◌+◌, arith}
use Rattle.opgen_num.proofs.BitLength.{power_order}
use Rattle.opgen_terms.proofs.terms.times_reach.Goals as goal

pub returns-then-times-clause-above : goal.returns-then-times-clause-above
returns-then-times-clause-above c =
    let w = c.format_of-a.result.width in
    omega (arith, c.square_reach.ensures.above, power_order (w + w) 96 (omega (arith, c.format_of-a.ensures.input.most)))

pub returns-else-times-clause-below : goal.returns-else-times-clause-below
returns-else-times-clause-below c =
    let most = power_order (c.format_of-a.result.width + c.format_of.result.width) 96
    (omega (arith, c.format_of-a.ensures.input.most, c.format_of.ensures.input.most)) in
    omega (arith, c.reach_of_product.ensures.below, most)

pub returns-else-times-clause-above : goal.returns-else-times-clause-above
returns-else-times-clause-above c =
    let most = power_order (c.format_of-a.result.width + c.format_of.result.width) 96
    (omega (arith, c.format_of-a.ensures.input.most, c.format_of.ensures.input.most)) in
    omega (arith, c.reach_of_product.ensures.above, most)
