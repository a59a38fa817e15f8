use Rattle.std.proofs.Common.{◌≡◌, ◌≤◌, ℕ, true, get_or, sym, ap, ◌∙◌, subst}
use Rattle.std.specs.List.{list_all}
use Rattle.opgen_sim.specs.Ranks.{is_ranked}
use Rattle.opgen_sim.proofs.RankLaws.{checked-ranks, none-of}
use Rattle.opgen_sim.proofs.forward.depth.Goals as goal

pub returns-then-are_ranks-clause-depth : goal.returns-then-are_ranks-clause-depth
returns-then-are_ranks-clause-depth c =
    let d = c.args.design.now in
    let ranks = c.deref-then-depth-most.result.now in
    let same : c.deref-2.result.now ≡ ranks = c.deref-2.ensures.value ∙ sym c.deref-then-depth-most.ensures.value in
    let checked : list_all (is_ranked (λ s. get_or ranks s 0)) d.drivers ≡ true
    = ap (list_all (is_ranked (λ s. get_or ranks s 0))) (sym c.as_slice-drivers.ensures) ∙ sym c.are_ranks.ensures ∙ c.if-are_ranks.true in
    record {
      no_enable = none-of d.enable (sym c.is_some.ensures ∙ c.if-is_some.false);
      rank = λ s. get_or ranks s 0;
      ranks = checked-ranks (λ s. get_or ranks s 0) d checked;
      most = subst (λ xs. (s : ℕ) → get_or xs s 0 ≤ c.highest_rank-depth.result) same c.highest_rank-depth.ensures;
    }
