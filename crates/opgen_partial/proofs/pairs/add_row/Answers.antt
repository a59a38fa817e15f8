use Rattle.std.proofs.Common.{◌≡◌, ◌+◌, suc, ap, ◌∙◌, arith}
use Rattle.opgen_partial.specs.Recipe.{with_product, with_row}
use Rattle.opgen_partial.proofs.pairs.add_row.Goals as goal

pub row-preserved : goal.row-preserved
row-preserved c =
    let p = c.args.products.now in
    let f = c.args.placing in
    let next : suc c.row.j ≡ c.row.j + 1 = omega arith in (
      c.in_ok-add_product.ensures.ok
          ∙ ap (with_product p f c.args.i c.row.j) c.row.invariant.0
          ∙ ap (λ k. with_row p f c.args.i k c.args.work.now) next,
      c.add_product.ensures.net,
      c.in_ok-add_product.ensures.factors,
    )
