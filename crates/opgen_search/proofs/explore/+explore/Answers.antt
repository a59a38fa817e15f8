use Rattle.std.proofs.Common.{rules, ◌≡◌, ◌+◌, ◌≤◌, length, drop, get_or, refl, ◌∙◌, ap, subst, arith}
use Rattle.std.proofs.lemmas.Result.{on_ok_weaker}
use Rattle.std.proofs.lemmas.List.Elements.{All-contains, Contains-get_or}
use Rattle.opgen_graph.specs.SetCost.{set_cost}
use Rattle.opgen_search.specs.Members.{Within}
use Rattle.opgen_search.specs.Nodes.{IsNode, members}
use Rattle.opgen_search.specs.Hunts.{IsChoice}
use Rattle.opgen_search.proofs.NodeLaws.{placed_terms, left_terms, added}
use Rattle.opgen_search.proofs.Trying.{later_itself, later_later, tried_none, tried_more, tried_all, too_dear, useless_last, last_taken, room_more, least_next, least_now, least_whole, within_more_members, fewer, room_moved, members_cost, member_cost, split_cost, room_whole, within_moved, length_moved, no_more, rest_all, held_member, free_member, is_member}
use Rattle.opgen_search.proofs.explore.+explore.Goals as goal

pub explore-consider-requires-clause-room : goal.explore-consider-requires-clause-room
explore-consider-requires-clause-room t c =
    room_whole _ _ c.args.more _ c.close.new.node.placed.items c.close.new.node.left.items c.in_ok-close.ensures.members
    (c.is_whole.ensures.whole c.if-is_whole.true).0 c.requires.room

pub explore-consider-requires-clause-least : goal.explore-consider-requires-clause-least
explore-consider-requires-clause-least t c =
    least_whole _ _ c.close.new.node.placed.items c.close.new.node.left.items c.args.node.least c.close.new.node.least c.in_ok-close.ensures.members (c.is_whole.ensures.whole c.if-is_whole.true).0 c.in_ok-close.ensures.least c.requires.least

pub explore-returns-then-is_whole-clause-covered : goal.explore-returns-then-is_whole-clause-covered
explore-returns-then-is_whole-clause-covered t c =
    let none = (c.is_whole.ensures.whole c.if-is_whole.true).0 in
    on_ok_weaker c.consider.result
    (λ h other own w few. h other own (subst (λ xs. Within (members c.close.new.node.placed.items xs) other) none
    (within_moved _ _ other c.in_ok-close.ensures.members w))) c.consider.ensures.all

pub explore-returns-then-more-eq0-clause-covered : goal.explore-returns-then-more-eq0-clause-covered
explore-returns-then-more-eq0-clause-covered t c =
    λ other own w few. absurd
    (no_more c.args.piece.now c.close.new.node.placed.items c.close.new.node.left.items c.close.new.node.least other c.requires.piece c.in_ok-close.ensures.node c.in_ok-close.ensures.stuck (c.is_whole.ensures.open c.if-is_whole.false) (least_now _ _ _ _ _ c.in_ok-close.ensures.members c.in_ok-close.ensures.least c.requires.least) own (within_moved _ _ other c.in_ok-close.ensures.members w) (length_moved _ _ (length other) 0 c.in_ok-close.ensures.members (subst (λ m. length other ≤ length (members c.args.node.placed.items c.args.node.left.items) + m) c.if-more-eq0.true few)))

pub explore-try_members-requires : goal.explore-try_members-requires
explore-try_members-requires t c = (
  search rules,
  (
    c.requires.piece,
    (
      c.requires.hunt,
      (
        c.in_ok-close.ensures.node,
        (
          c.in_ok-close.ensures.stuck,
          (
            c.is_whole.ensures.open c.if-is_whole.false,
            (
              room_moved _ _ _ _ c.args.more c.in_ok-close.ensures.members c.requires.room,
              (
                least_now _ _ _ _ _ c.in_ok-close.ensures.members c.in_ok-close.ensures.least c.requires.least,
                omega (arith, c.if-more-eq0.false),
              ),
            ),
          ),
        ),
      ),
    ),
  ),
)

pub explore-returns-clause-covered : goal.explore-returns-clause-covered
explore-returns-clause-covered t c =
    on_ok_weaker c.try_members.result (λ h other own w few. h other own (within_moved _ _ other c.in_ok-close.ensures.members w)
    (length_moved _ _ (length other) c.args.more c.in_ok-close.ensures.members few)) c.try_members.ensures.covered

pub try_member-overflow_add-spent : goal.try_member-overflow_add-spent
try_member-overflow_add-spent t c =
    omega (
      arith,
      c.requires.spent,
      members_cost c.args.piece.now.search.now c.args.node.now.placed.items c.args.node.now.left.items c.args.more c.requires.piece.search c.requires.room,
      c.cost.ensures,
      member_cost c.args.piece.now.search.now c.args.member c.requires.piece.search,
    )

pub try_member-returns-then-spent-cost-clause-all : goal.try_member-returns-then-spent-cost-clause-all
try_member-returns-then-spent-cost-clause-all t c =
    λ other own w few m out made. too_dear c.args.piece.now c.args.hunt.now
    (members c.args.node.now.placed.items c.args.node.now.left.items) other c.args.member c.args.spent c.cost.result c.requires.piece c.requires.node.distinct out w m c.requires.spent c.cost.ensures c.if-spent-cost.true

pub try_member-returns-then-has-clause-all : goal.try_member-returns-then-has-clause-all
try_member-returns-then-has-clause-all t c =
    λ other own w few m out made. absurd
    (out (held_member _ _ c.args.member c.requires.node c.requires.member.1
    (rw (c.as_slice.ensures.value, c.as_slice-2.ensures.value) at (c.has.ensures.held c.if-has.true))))

pub try_member-returns-then-is_foreign-clause-all : goal.try_member-returns-then-is_foreign-clause-all
try_member-returns-then-is_foreign-clause-all t c = λ other own w few m out made.
    let foreign = c.is_foreign.ensures c.if-is_foreign.true in
    absurd (foreign.1
    (last_taken c.args.piece.now c.args.node.now.placed.items c.args.node.now.left.items c.args.node.now.least other c.args.member c.args.more c.requires.piece c.requires.node c.requires.room c.requires.least own w m out few foreign.0))

pub try_member-is_worth-requires-clause-terms : goal.try_member-is_worth-requires-clause-terms
try_member-is_worth-requires-clause-terms t c = let m = is_member c.args.piece.now.search.now c.args.member c.requires.piece.search c.requires.member in rw (c.as_slice-3.ensures.value, c.as_slice-4.ensures.value) (placed_terms _ _ c.requires.node, left_terms _ _ c.requires.node, (m.0, m.2))

pub try_member-is_worth-requires-clause-stuck : goal.try_member-is_worth-requires-clause-stuck
try_member-is_worth-requires-clause-stuck t c = rw (c.as_slice-3.ensures.value, c.as_slice-4.ensures.value) c.requires.stuck

pub try_member-returns-then-not-is_worth-clause-all : goal.try_member-returns-then-not-is_worth-clause-all
try_member-returns-then-not-is_worth-clause-all t c =
    let useless = rw (c.as_slice-3.ensures.value, c.as_slice-4.ensures.value) at c.is_worth.ensures.useless in
    λ other own w few m out made.
    let last = useless c.if-not-is_worth.true made in
    absurd (useless_last c.args.piece.now.search.now c.args.node.now.placed.items c.args.node.now.left.items other c.args.member c.requires.piece.search c.requires.node last.1 (is_member c.args.piece.now.search.now c.args.member c.requires.piece.search c.requires.member) out made last.2 own.0 w m (omega (arith, few, last.0)))

pub try_member-explore-requires : goal.try_member-explore-requires
try_member-explore-requires t c =
    let made = rw c.as_slice-3.ensures.value at (c.is_worth.ensures.made c.if-not-is_worth.false) in
    let free = rw (c.as_slice.ensures.value, c.as_slice-2.ensures.value) at (c.has.ensures.free c.if-has.false) in
    let out = free_member _ _ _ c.requires.node free in
    let node = added c.args.node.now.placed.items c.args.node.now.left.items c.args.member c.requires.node out
    (is_member c.args.piece.now.search.now c.args.member c.requires.piece.search c.requires.member) made in
    let room =
    room_more c.args.piece.now.search.now.targets.items c.args.piece.now.search.now.extra c.args.node.now.placed.items c.args.node.now.left.items c.args.member c.args.more c.requires.node.starts c.requires.room c.requires.more (omega (arith, c.requires.member.2, c.requires.piece.search.limit_is)) in
    let least =
    least_next c.args.piece.now.search.now.targets.items c.args.piece.now.search.now.extra c.args.node.now.placed.items c.args.node.now.left.items c.args.node.now.least c.args.member c.args.more c.requires.node.starts c.requires.room out c.requires.least in (
      search rules,
      (
        c.requires.piece,
        (
          c.requires.hunt,
          (
            rw (c.in_ok-next.ensures.placed, c.in_ok-next.ensures.left) node,
            (
              rw (c.in_ok-next.ensures.placed, c.in_ok-next.ensures.left) room,
              rw (c.in_ok-next.ensures.placed, c.in_ok-next.ensures.left, c.in_ok-next.ensures.least) least,
            ),
          ),
        ),
      ),
    )

pub try_member-returns-clause-all : goal.try_member-returns-clause-all
try_member-returns-clause-all t c =
    let all = rw (c.in_ok-next.ensures.placed, c.in_ok-next.ensures.left) at c.explore.ensures.covered in
    on_ok_weaker c.explore.result (λ h other own w few m out made. h other own
    (within_more_members c.args.node.now.placed.items c.args.node.now.left.items other c.args.member c.requires.node.starts w m)
    (fewer c.args.node.now.placed.items c.args.node.now.left.items c.args.member c.args.more
    (length other) c.requires.node.starts c.requires.more few)) all

pub try_members-overflow_add-spent : goal.try_members-overflow_add-spent
try_members-overflow_add-spent t c =
    let left = rw c.as_slice.ensures.value at c.cost-2.ensures in
    let first : c.cost.result ≡ set_cost c.args.piece.now.search.now.width (drop 1 c.args.node.now.placed.items) =
    c.cost.ensures ∙ ap (set_cost c.args.piece.now.search.now.width) (rest_all c.deref.result.now
    ∙ ap (drop 1) c.deref.ensures.value) in
    omega (
      arith,
      first,
      left,
      split_cost c.args.piece.now.search.now c.args.node.now.placed.items c.args.node.now.left.items,
      members_cost c.args.piece.now.search.now c.args.node.now.placed.items c.args.node.now.left.items c.args.more c.requires.piece.search c.requires.room,
    )

pub try_members-returns-in_err-try_member-clause-later : goal.try_members-returns-in_err-try_member-clause-later
try_members-returns-in_err-try_member-clause-later t c = later_later _ _ _ _ c.loop-member.invariant.later c.try_member.ensures.later

pub try_members-try_member-requires : goal.try_members-try_member-requires
try_members-try_member-requires t c =
    let left = rw c.as_slice.ensures.value at c.cost-2.ensures in
    let first : c.cost.result ≡ set_cost c.args.piece.now.search.now.width (drop 1 c.args.node.now.placed.items) =
    c.cost.ensures ∙ ap (set_cost c.args.piece.now.search.now.width) (rest_all c.deref.result.now
    ∙ ap (drop 1) c.deref.ensures.value) in
    let choices = c.choices-member-items.result.now in
    let i = c.loop-member.member-index in
    let choice = All-contains (IsChoice c.args.piece.now.search.now.limit) choices
    (get_or choices i 0) c.choices-member-items.ensures.each (Contains-get_or choices i 0 c.loop-member-test.true) in (
      search rules,
      (
        c.requires.piece,
        (
          c.loop-member.invariant.hunt,
          (
            c.requires.node,
            (
              c.requires.stuck,
              (
                c.requires.room,
                (
                  c.requires.least,
                  (
                    c.requires.more,
                    (
                      omega (
                        arith,
                        first,
                        left,
                        split_cost c.args.piece.now.search.now c.args.node.now.placed.items c.args.node.now.left.items,
                      ),
                      choice,
                    ),
                  ),
                ),
              ),
            ),
          ),
        ),
      ),
    )

pub try_members-loop-member-preserved : goal.try_members-loop-member-preserved
try_members-loop-member-preserved t c =
    tried_more c.args.piece.now c.args.hunt.now c.loop-member.hunt c.try_member.new.hunt c.args.node.now.placed.items c.args.node.now.left.items c.args.more c.choices-member-items.result.now c.loop-member.member-index _ c.loop-member-test.true refl c.loop-member.invariant c.try_member.ensures.hunt c.try_member.ensures.later c.in_ok-try_member.ensures.all

pub try_members-returns-clause-covered : goal.try_members-returns-clause-covered
try_members-returns-clause-covered t c =
    tried_all c.args.piece.now c.args.hunt.now c.loop-member.hunt c.args.node.now.placed.items c.args.node.now.left.items c.args.node.now.least c.args.more c.choices-member-items.result.now c.loop-member.member-index c.requires.piece c.requires.node c.requires.stuck c.requires.open c.requires.room c.requires.least c.choices-member-items.ensures.every c.loop-member-test.false c.loop-member.invariant

pub explore-returns-in_err-close-clause-later : goal.explore-returns-in_err-close-clause-later
explore-returns-in_err-close-clause-later t c = later_itself c.args.piece.now c.args.hunt.now

pub explore-returns-in_err-close-clause-hunt : goal.explore-returns-in_err-close-clause-hunt
explore-returns-in_err-close-clause-hunt t c = c.requires.hunt

pub explore-consider-requires-clause-hunt : goal.explore-consider-requires-clause-hunt
explore-consider-requires-clause-hunt t c = c.requires.hunt

pub explore-consider-requires-clause-piece : goal.explore-consider-requires-clause-piece
explore-consider-requires-clause-piece t c = c.requires.piece

pub explore-consider-requires-clause-node : goal.explore-consider-requires-clause-node
explore-consider-requires-clause-node t c =
    subst (IsNode c.close.new.node.placed.items) (c.is_whole.ensures.whole c.if-is_whole.true).0 c.in_ok-close.ensures.node

pub explore-consider-requires-clause-takes : goal.explore-consider-requires-clause-takes
explore-consider-requires-clause-takes t c = (c.is_whole.ensures.whole c.if-is_whole.true).1

pub explore-returns-then-is_whole-clause-hunt : goal.explore-returns-then-is_whole-clause-hunt
explore-returns-then-is_whole-clause-hunt t c = c.consider.ensures.hunt

pub explore-returns-then-is_whole-clause-later : goal.explore-returns-then-is_whole-clause-later
explore-returns-then-is_whole-clause-later t c = c.consider.ensures.later

pub explore-returns-then-more-eq0-clause-hunt : goal.explore-returns-then-more-eq0-clause-hunt
explore-returns-then-more-eq0-clause-hunt t c = c.requires.hunt

pub explore-returns-then-more-eq0-clause-later : goal.explore-returns-then-more-eq0-clause-later
explore-returns-then-more-eq0-clause-later t c = later_itself c.args.piece.now c.args.hunt.now

pub explore-returns-clause-hunt : goal.explore-returns-clause-hunt
explore-returns-clause-hunt t c = c.try_members.ensures.hunt

pub explore-returns-clause-later : goal.explore-returns-clause-later
explore-returns-clause-later t c = c.try_members.ensures.later

pub try_member-returns-then-has-clause-hunt : goal.try_member-returns-then-has-clause-hunt
try_member-returns-then-has-clause-hunt t c = c.requires.hunt

pub try_member-returns-then-has-clause-later : goal.try_member-returns-then-has-clause-later
try_member-returns-then-has-clause-later t c = later_itself c.args.piece.now c.args.hunt.now

pub try_member-is_foreign-requires : goal.try_member-is_foreign-requires
try_member-is_foreign-requires t c = c.requires.piece

pub try_member-returns-in_err-next-clause-hunt : goal.try_member-returns-in_err-next-clause-hunt
try_member-returns-in_err-next-clause-hunt t c = c.requires.hunt

pub try_member-returns-in_err-next-clause-later : goal.try_member-returns-in_err-next-clause-later
try_member-returns-in_err-next-clause-later t c = later_itself c.args.piece.now c.args.hunt.now

pub try_member-overflow_sub-more : goal.try_member-overflow_sub-more
try_member-overflow_sub-more t c = c.requires.more

pub try_member-returns-clause-hunt : goal.try_member-returns-clause-hunt
try_member-returns-clause-hunt t c = c.explore.ensures.hunt

pub try_member-returns-clause-later : goal.try_member-returns-clause-later
try_member-returns-clause-later t c = c.explore.ensures.later

pub try_members-look-requires : goal.try_members-look-requires
try_members-look-requires t c = c.requires.hunt

pub try_members-choices-member-items-requires : goal.try_members-choices-member-items-requires
try_members-choices-member-items-requires t c = c.requires.piece

pub try_members-loop-member-init : goal.try_members-loop-member-init
try_members-loop-member-init t c = tried_none c.args.piece.now c.args.hunt.now c.look.new.hunt c.args.node.now.placed.items
    c.args.node.now.left.items c.args.more c.choices-member-items.result.now c.look.ensures.hunt c.look.ensures.later

pub try_members-returns-clause-hunt : goal.try_members-returns-clause-hunt
try_members-returns-clause-hunt t c = c.loop-member.invariant.hunt

pub try_members-returns-clause-later : goal.try_members-returns-clause-later
try_members-returns-clause-later t c = c.loop-member.invariant.later
