use Rattle.std.proofs.Common.{ap, refl, sym, ◌∙◌}
use Rattle.opgen_graph.proofs.OddParts.{refuted}
use Rattle.opgen_search.specs.Covered.{best_of}
use Rattle.opgen_search.proofs.Merging.{lesser_second, lesser_first, lesser_only, lesser_rest}
use Rattle.opgen_search.proofs.take.lesser.Goals as goal

pub returns-then-is_before-clause-lesser : goal.returns-then-is_before-clause-lesser
returns-then-is_before-clause-lesser c =
    let b = rw (c.as_slice.ensures.value, c.as_slice-in-Some-Some.ensures.value) at c.is_before.ensures in
    lesser_second _ _ _ _ _ _ (ap best_of c.in-Some-Some.is-0) (ap best_of c.in-Some-Some.is-1) (sym (ap best_of c.in-Some-Some.is-1))
    (b.0 c.if-is_before.true)

pub returns-else-is_before-clause-lesser : goal.returns-else-is_before-clause-lesser
returns-else-is_before-clause-lesser c =
    let b = rw (c.as_slice.ensures.value, c.as_slice-in-Some-Some.ensures.value) at c.is_before.ensures in
    lesser_first _ _ _ _ _ _ (ap best_of c.in-Some-Some.is-0) (ap best_of c.in-Some-Some.is-1) (sym (ap best_of c.in-Some-Some.is-0))
    (λ k. refuted (sym c.if-is_before.false ∙ b.1 k))

pub returns-in-Some-None-clause-lesser : goal.returns-in-Some-None-clause-lesser
returns-in-Some-None-clause-lesser c = lesser_only _ _ _ _ (ap best_of c.in-Some-None.is-1) (sym (ap best_of c.in-Some-None.is-0))

pub returns-in-None-default-clause-lesser : goal.returns-in-None-default-clause-lesser
returns-in-None-default-clause-lesser c = lesser_rest _ _ _ _ (ap best_of c.in-None-default.is-0) refl
