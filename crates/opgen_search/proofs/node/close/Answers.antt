use Rattle.opgen_search.proofs.NodeLaws.{moved_next, placed_terms, left_terms}
use Rattle.opgen_search.proofs.node.close.Goals as goal

pub next_made-requires : goal.next_made-requires
next_made-requires c = rw (c.as_slice.ensures.value, c.as_slice-in-places.ensures.value)
    (placed_terms _ _ c.places.invariant.node, left_terms _ _ c.places.invariant.node)

pub places-preserved : goal.places-preserved
places-preserved c =
    let some = rw (c.as_slice.ensures.value, c.as_slice-in-places.ensures.value) at c.in-Some.ensures.some in
    let next = moved_next _ _ _ _ _ c.places.invariant.node c.places.invariant.members some.0 c.remove-next.ensures.value some.1 in
    rw (c.in_ok-push.ensures.items, c.remove-next.ensures.items)
    (record { node = next.0; members = next.1; least = c.places.invariant.least })

pub returns-clause-stuck : goal.returns-clause-stuck
returns-clause-stuck c = rw (c.as_slice.ensures.value, c.as_slice-in-places.ensures.value) at c.in_default.ensures.none
