use Rattle.opgen_bound.specs.Passes.{view}
use Rattle.opgen_search.specs.Covered.{best_of, Covered, IsLesser}
use Rattle.opgen_search.specs.Forks.{parts_of}
use Rattle.opgen_search.proofs.Merging.{merged_results}
use Rattle.opgen_search.proofs.Forking.{parts_merged}
use Rattle.opgen_search.proofs.fork.merge.Goals as goal

pub returns-clause-answered : goal.returns-clause-answered
returns-clause-answered c = λ low middle high le ge left right.
    let width = c.args.search.now.width in
    rw c.join.ensures.view
    (merged_results (λ best. Covered (parts_of c.args.search.now low middle) width (best_of best) (view c.args.left.pass))
    (λ best. Covered (parts_of c.args.search.now middle high) width (best_of best) (view c.args.right.pass)) _
    (λ one other best. IsLesser width (best_of one) (best_of other)
    (best_of best)) c.args.left.best c.args.right.best c.lesser_of-best.result
    (λ one other best p q l. parts_merged c.args.search.now low middle high width (best_of one) (best_of other) (best_of best)
    (view c.args.left.pass)
    (view c.args.right.pass) le ge p q l) left right c.lesser_of-best.ensures.lesser c.lesser_of-best.ensures.one c.lesser_of-best.ensures.other)
