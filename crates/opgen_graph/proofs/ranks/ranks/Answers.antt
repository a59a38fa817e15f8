use Rattle.std.proofs.Common.{◌++◌, [], IsPermutation, subst}
use Rattle.std.proofs.lemmas.List.{append-nil}
use Rattle.std.proofs.lemmas.List.Sorted.{IsNonDecreasingBy-from_sort}
use Rattle.opgen_graph.specs.Adders.{IsTerm}
use Rattle.opgen_graph.specs.Graphs.{values, done, Rounds}
use Rattle.opgen_graph.proofs.Vectors.{is_empty_true, is_empty_false}
use Rattle.opgen_graph.proofs.Reaching.{unreachable, ranking_more, all_sorted, shorter}
use Rattle.opgen_graph.proofs.ranks.ranks.Goals as goal

pub returns-then-is_empty-clause-none : goal.returns-then-is_empty-clause-none
returns-then-is_empty-clause-none c =
    let s = rw (c.as_slice.ensures.value, c.as_slice-in-rounds.ensures.value) at c.in_ok-made.ensures in
    unreachable _ _ _ _ _ _ c.rounds.invariant.ranking (is_empty_false c.rounds.left c.rounds-test.ensures) s
    (is_empty_true c.in_ok-made.made.fresh c.if-is_empty.ensures)

pub rounds-smaller : goal.rounds-smaller
rounds-smaller c =
    let s = rw (c.as_slice.ensures.value, c.as_slice-in-rounds.ensures.value) at c.in_ok-made.ensures in
    shorter _ _ _ _ s (is_empty_false c.in_ok-made.made.fresh c.if-is_empty.ensures)

pub rounds-preserved : goal.rounds-preserved
rounds-preserved c =
    let s = rw (c.as_slice.ensures.value, c.as_slice-in-rounds.ensures.value) at c.in_ok-made.ensures in
    let slice = c.as_slice-in-rounds-2.ensures.value in
    let placed = rw slice at c.in_ok-place.ensures.placed in
    let adders = rw slice at c.in_ok-place.ensures.adders in
    let i = c.rounds.invariant in
    let moved : IsPermutation (c.rounds.placed.items ++ values c.in_ok-made.made.fresh.items) c.sort_unstable.new.self.items =
    subst (λ xs. IsPermutation xs c.sort_unstable.new.self.items) placed c.sort_unstable.ensures.permutation in
    record {
      terms = all_sorted IsTerm _ _ _ _ _ i.terms.1 i.terms.0 s moved;
      increasing = IsNonDecreasingBy-from_sort (λ n. n) _ c.sort_unstable.ensures.sorted;
      ranking = rw adders (ranking_more _ _ _ _ _ _ _ i.ranking s (is_empty_false c.in_ok-made.made.fresh c.if-is_empty.ensures) moved);
    }

pub returns-clause-ranks : goal.returns-clause-ranks
returns-clause-ranks c =
    let rest : Rounds c.rounds.placed.items c.rounds.left.items [] = rw (is_empty_true c.rounds.left c.rounds-test.ensures) done in
    let e = c.rounds.invariant.ranking.rounds [] rest in rw append-nil at e

pub round-requires-clause-terms : goal.round-requires-clause-terms
round-requires-clause-terms c = rw (c.as_slice.ensures.value, c.as_slice-in-rounds.ensures.value) c.rounds.invariant.terms

pub round-requires-clause-increasing : goal.round-requires-clause-increasing
round-requires-clause-increasing c = rw c.as_slice.ensures.value c.rounds.invariant.increasing
