use Rattle.std.proofs.lemmas.Result.{on_ok_weaker}
use Rattle.opgen_search.proofs.Closing.{root_node, root_room}
use Rattle.opgen_search.proofs.Hunting.{piece_covered}
use Rattle.opgen_search.proofs.piece.try_piece.Goals as goal

pub explore-requires-clause-node : goal.explore-requires-clause-node
explore-requires-clause-node c = rw (c.in_ok-node.ensures.placed, c.in_ok-node.ensures.left, c.as_slice.ensures.value)
    (root_node c.args.search.now.targets.items c.requires.search.targets)

pub explore-requires-clause-room : goal.explore-requires-clause-room
explore-requires-clause-room c = rw (c.in_ok-node.ensures.placed, c.in_ok-node.ensures.left, c.as_slice.ensures.value)
    (root_room c.args.search.now.targets.items c.args.search.now.extra c.requires.search.targets)

pub returns-clause-covered : goal.returns-clause-covered
returns-clause-covered c =
    let all = rw (c.in_ok-node.ensures.placed, c.in_ok-node.ensures.left, c.as_slice.ensures.value) at c.explore.ensures.covered in
    on_ok_weaker c.explore.result (λ h. piece_covered _ c.explore.new.hunt
    (record { search = c.requires.search; number = c.requires.number; own = c.in_ok-own.ensures }) c.explore.ensures.hunt h
    (λ e. c.explore.ensures.later.settled c.args.search.now.digits.items (c.in_ok-try_digits.ensures.digits e))) all
