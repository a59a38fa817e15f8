use Rattle.std.proofs.Common.{sym, subst}
use Rattle.opgen_partial.specs.Law.{AreFactors}
use Rattle.opgen_poly.proofs.StepLaws.{factors}
use Rattle.opgen_poly.proofs.steps.summed.Goals as goal

pub add_products-requires-clause-factors : goal.add_products-requires-clause-factors
add_products-requires-clause-factors c =
    let p = c.args.poly.now in
    subst (λ q. AreFactors q c.args.partial.net) (sym c.pairs-products.ensures)
    (factors p c.requires.poly c.args.place c.requires.place c.args.partial c.requires.partial)
