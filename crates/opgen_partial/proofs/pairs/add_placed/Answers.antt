use Rattle.std.proofs.Common.{◌≡◌, ◌∙◌, sym, ap, subst, arith}
use Rattle.opgen_partial.specs.Law.{HasPlaced}
use Rattle.opgen_partial.specs.Recipe.{with_rows}
use Rattle.opgen_partial.proofs.Laws.{placed-law}
use Rattle.opgen_partial.proofs.pairs.add_placed.Goals as goal

pub returns-clause-products : goal.returns-clause-products
returns-clause-products c =
    let p = c.args.products.now in
    let f = c.args.placing in
    let before = c.args.work.now in
    let all : c.rows.i ≡ p.a.width = omega (arith, c.rows-test.false, c.rows.auto.i-end) in
    subst (HasPlaced p f before) (sym (c.rows.invariant.0 ∙ ap (λ k. with_rows p f k before) all))
    (placed-law p f c.requires.placed before c.requires.net c.requires.factors c.requires.there)
