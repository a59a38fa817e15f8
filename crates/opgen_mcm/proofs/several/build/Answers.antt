use Rattle.std.proofs.Common.{sym, subst}
use Rattle.std.proofs.lemmas.Result.{IfOk-weaker}
use Rattle.opgen_mcm.specs.Products.{HasProducts}
use Rattle.opgen_mcm.proofs.Products.{products}
use Rattle.opgen_mcm.proofs.several.build.Goals as goal

pub returns-clause-products : goal.returns-clause-products
returns-clause-products c =
    let m = c.args.several.now in
    let graph = c.args.graph.now in
    IfOk-weaker c.graph_net.result _ _
    (λ net e. subst (HasProducts m) (sym e) (products m c.requires.several graph c.requires.graph)) c.graph_net.ensures.net
