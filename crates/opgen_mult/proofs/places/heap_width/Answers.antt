use Rattle.std.proofs.Common.{ap, arith}
use Rattle.opgen_num.specs.declared.format.Format.{Format}
use Rattle.opgen_mult.proofs.HeapWidth.{layout}
use Rattle.opgen_mult.proofs.places.heap_width.Goals as goal

pub overflow_sub-result : goal.overflow_sub-result
overflow_sub-result c =
    let fit = layout c.products_have_width.ensures c.args.product.now c.requires in
    omega (arith, fit.room, ap (λ (f : Format). f.width) c.output.ensures.value, c.bits_below.ensures.value, c.zeros_below.ensures.value)

pub returns-clause-some : goal.returns-clause-some
returns-clause-some c =
    let fit = layout c.products_have_width.ensures c.args.product.now c.requires in
    omega (arith, fit.some, ap (λ (f : Format). f.width) c.output.ensures.value, c.bits_below.ensures.value, c.zeros_below.ensures.value)

pub returns-clause-few : goal.returns-clause-few
returns-clause-few c =
    let fit = layout c.products_have_width.ensures c.args.product.now c.requires in
    omega (arith, fit.few, ap (λ (f : Format). f.width) c.output.ensures.value, c.bits_below.ensures.value, c.zeros_below.ensures.value)
