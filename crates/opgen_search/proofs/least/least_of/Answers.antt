use Rattle.std.proofs.Common.{◌≡◌, ap, ◌∙◌}
use Rattle.opgen_bound.specs.declared.view.View.{View}
use Rattle.opgen_bound.specs.Passes.{view}
use Rattle.opgen_graph.specs.SetCost.{set_cost}
use Rattle.opgen_search.specs.Covered.{best_of, Covered}
use Rattle.opgen_search.specs.Forks.{parts_of}
use Rattle.opgen_search.proofs.Ending.{some_first, first_least}
use Rattle.opgen_search.proofs.least.least_of.Goals as goal

pub returns : goal.returns
returns g c =
    let search = c.args.search.now in
    let v = view c.run_pieces-best.result.pass in
    let price : c.cost-start.result ≡ set_cost search.width search.digits.items = rw c.as_slice.ensures.value at c.cost-start.ensures in
    let start : v.start ≡ set_cost search.width search.digits.items = c.run_pieces-best.ensures.start
    ∙ ap (λ (w : View). w.start) c.in_ok-bound.ensures.view ∙ price in
    let covered : Covered (parts_of search 0 search.pieces) search.width (best_of c.in_ok-set.field-0) v =
    rw c.in_ok-set.was at c.run_pieces-best.ensures.answered in
    first_least search (best_of c.in_ok-set.field-0) c.in-Some.set.items c.requires (ap best_of c.in-Some.is)
    (some_first search
    (best_of c.in_ok-set.field-0) v c.close.result c.requires covered start c.close.ensures.least c.close.ensures.falls)

pub close-requires-clause-bound : goal.close-requires-clause-bound
close-requires-clause-bound g c = c.run_pieces-best.ensures.same

pub close-requires-clause-all : goal.close-requires-clause-all
close-requires-clause-all g c = c.run_pieces-best.ensures.share ∙ ap (λ (w : View). w.share) c.in_ok-bound.ensures.view
