use Rattle.std.proofs.lemmas.List.Sorted.{IsNonDecreasingBy-from_sort}
use Rattle.opgen_search.proofs.explore.set_of.Goals as goal

pub returns-clause-increasing : goal.returns-clause-increasing
returns-clause-increasing c = IsNonDecreasingBy-from_sort (λ n. n) _ c.sort_unstable.ensures.sorted
