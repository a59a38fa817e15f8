use Rattle.std.proofs.lemmas.Result.{on_ok_weaker}
use Rattle.opgen_partial.proofs.Laws.{products-from}
use Rattle.opgen_partial.proofs.pairs.add_products.Goals as goal

pub returns-clause-products : goal.returns-clause-products
returns-clause-products c =
    on_ok_weaker c.add_placed.result (products-from c.args.products.now c.args.work.now c.add_placed.new.work) c.add_placed.ensures.products
