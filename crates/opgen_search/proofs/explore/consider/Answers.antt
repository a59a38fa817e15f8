use Rattle.std.proofs.Common.{inl}
use Rattle.opgen_search.proofs.Order.{settles}
use Rattle.opgen_search.proofs.Hunting.{not_before_itself}
use Rattle.opgen_search.proofs.Trying.{own_set, same_or_dearer, set_count}
use Rattle.opgen_search.proofs.explore.consider.Goals as goal

pub is_better-requires-clause-count : goal.is_better-requires-clause-count
is_better-requires-clause-count c = let p = rw c.as_slice.ensures.value at c.in_ok-set.ensures.members in
    rw c.as_slice-2.ensures.value
    (set_count c.args.piece.now.search.now c.args.node.now.placed.items _ c.requires.piece.search c.requires.room p)

pub take-requires-clause-member : goal.take-requires-clause-member
take-requires-clause-member c =
    let p = rw c.as_slice.ensures.value at c.in_ok-set.ensures.members in
    inl (own_set c.args.piece.now c.args.node.now.placed.items c.in_ok-set.set.items c.args.node.now.least c.requires.node c.requires.room c.requires.least c.requires.takes p c.in_ok-set.ensures.increasing)

pub take-requires-clause-count : goal.take-requires-clause-count
take-requires-clause-count c = let p = rw c.as_slice.ensures.value at c.in_ok-set.ensures.members in
    set_count c.args.piece.now.search.now c.args.node.now.placed.items _ c.requires.piece.search c.requires.room p

pub returns-then-is_better-clause-all : goal.returns-then-is_better-clause-all
returns-then-is_better-clause-all c =
    let p = rw c.as_slice.ensures.value at c.in_ok-set.ensures.members in
    λ other own w. inl (settles c.args.piece.now.search.now.width _ c.in_ok-set.set.items other
    (not_before_itself c.args.piece.now.search.now.width c.in_ok-set.set.items _ c.take.ensures.best)
    (same_or_dearer c.args.piece.now.search.now.targets.items c.args.piece.now.search.now.width c.args.piece.now.search.now.extra c.args.node.now.placed.items c.in_ok-set.set.items other c.requires.piece.search.width.0 c.requires.node p c.in_ok-set.ensures.increasing own.0 w))

pub returns-else-is_better-clause-all : goal.returns-else-is_better-clause-all
returns-else-is_better-clause-all c =
    let p = rw c.as_slice.ensures.value at c.in_ok-set.ensures.members in
    let worse = rw c.as_slice-2.ensures.value at (c.is_better.ensures.worse c.if-is_better.false) in
    λ other own w. inl (settles c.args.piece.now.search.now.width _ c.in_ok-set.set.items other worse
    (same_or_dearer c.args.piece.now.search.now.targets.items c.args.piece.now.search.now.width c.args.piece.now.search.now.extra c.args.node.now.placed.items c.in_ok-set.set.items other c.requires.piece.search.width.0 c.requires.node p c.in_ok-set.ensures.increasing own.0 w))
