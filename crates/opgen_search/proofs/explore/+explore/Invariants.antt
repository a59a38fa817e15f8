use Rattle.std.proofs.Common.{◌+◌, ◌*◌, take}
use Rattle.opgen_search.proofs.Trying.{Tried}
use Rattle.opgen_search.proofs.explore.+explore.Given as goal

abbrev pub decreases-explore : goal.decreases-explore
decreases-explore l = 3 * l.more + 2

abbrev pub decreases-try_members : goal.decreases-try_members
decreases-try_members l = 3 * l.more + 1

abbrev pub decreases-try_member : goal.decreases-try_member
decreases-try_member l = 3 * l.more

abbrev pub invariant-try_members-loop-member : goal.invariant-try_members-loop-member
invariant-try_members-loop-member l = Tried l.piece l.fn.hunt l.hunt l.node.placed.items l.node.left.items l.more
    (take l.member-index l.member-items)
