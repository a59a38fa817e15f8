use Rattle.std.proofs.Common.{get_or, length, ap, inl, inr, arith}
use Rattle.std.proofs.lemmas.Bool.{cases_eq, cases_lt}
use Rattle.std.proofs.lemmas.List.{get_or_past}
use Rattle.opgen_sim.proofs.forward.highest_rank.Goals as goal

pub loop-rank-preserved : goal.loop-rank-preserved
loop-rank-preserved c s l =
    let ranks = c.args.ranks.now in
    elim (cases_eq s c.loop-rank.rank-index) [
      | inl e ↦ omega (arith, ap (λ n. get_or ranks n 0) e, c.max-highest.ensures)
      | inr n ↦ omega (arith, c.loop-rank.invariant s (omega (arith, l, n)), c.max-highest.ensures)
    ]

pub returns : goal.returns
returns c s =
    let ranks = c.args.ranks.now in
    elim (cases_lt s (length ranks)) [
      | inl l ↦ c.loop-rank.invariant s (omega (arith, l))
      | inr l ↦ omega (arith, get_or_past ranks s 0 l)
    ]
