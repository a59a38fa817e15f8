use Rattle.std.proofs.Common.{◌%◌, ap, ◌∙◌, All}
use Rattle.opgen_search.specs.Hunts.{IsChoice}
use Rattle.opgen_search.proofs.Choices.{own_more, own_same, all_own}
use Rattle.opgen_search.proofs.part.own_odds.Goals.{then-number-search+in_ok-push, else-number-search}
use Rattle.opgen_search.proofs.part.own_odds.Goals as goal

pub loop-odd-preserved : goal.loop-odd-preserved
loop-odd-preserved c =
    let odds = c.as_slice-odd-items.result.now in
    let i = c.loop-odd.odd-index in
    let all : All (IsChoice c.args.search.now.limit) odds = rw c.as_slice-odd-items.ensures.value c.requires.odds.each in
    let member = rw c.as_slice.ensures.value at c.number.ensures in
    elim c.if-number-search.branch [
      | then-number-search+in_ok-push w ↦
          rw (w.own-is, w.in_ok-push.ensures.items)
          (own_more c.args.search.now c.args.piece odds c.loop-odd.own.items i c.loop-odd-test.true all c.loop-odd.invariant)
      | else-number-search w ↦
          rw w.own-is (own_same c.args.search.now c.args.piece odds c.loop-odd.own.items i c.loop-odd-test.true
          (λ e. w.if-number-search.false (ap (λ n. n % c.args.search.now.pieces) member ∙ e)) c.loop-odd.invariant)
    ]

pub returns : goal.returns
returns c =
    let h = rw c.as_slice-odd-items.ensures.value at c.loop-odd.invariant in
    let le = rw c.as_slice-odd-items.ensures.value at c.loop-odd-test.false in
    all_own c.args.search.now c.args.piece c.loop-odd.own.items c.loop-odd.odd-index c.requires.odds le h
