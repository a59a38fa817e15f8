use Rattle.std.proofs.Common.{true≢false, sym, subst, ◌∙◌, arith}
use Rattle.opgen_graph.specs.declared.ranks.Adder.{Adder}
use Rattle.opgen_shared.specs.Rule.{IsBefore}
use Rattle.opgen_shared.specs.Steps.{IsNotAfter}
use Rattle.opgen_shared.proofs.Comparing.{heavier_rest, quick_first}
use Rattle.opgen_shared.proofs.Ranking.{not_after_itself, not_after_first, before_is, ranks_are}
use Rattle.opgen_shared.proofs.candidates.better.Goals as goal

pub returns-then-not-stands-clause-kept : goal.returns-then-not-stands-clause-kept
returns-then-not-stands-clause-kept c = not_after_itself c.args.sums.now.adders c.args.best.adder

pub returns-then-not-stands-clause-least : goal.returns-then-not-stands-clause-least
returns-then-not-stands-clause-least c =
    λ s. quick_first c.args.sums.now.adders c.args.sums.now.levels.items c.args.adder.value c.args.best c.args.adder c.args.rest c.requires.sums
    c.requires.best c.if-best-eq1.true c.if-best-eq0.true c.requires.adder c.requires.rest
    (λ k. true≢false (sym (c.stands.ensures.stands.1 k) ∙ c.if-not-stands.true))

pub returns-then-weight-count-clause-kept : goal.returns-then-weight-count-clause-kept
returns-then-weight-count-clause-kept c = not_after_itself c.args.sums.now.adders c.args.best.adder

pub returns-then-weight-count-clause-least : goal.returns-then-weight-count-clause-least
returns-then-weight-count-clause-least c =
    λ s. absurd (omega (
      arith,
      c.if-weight-count.true,
      c.weight-weight.ensures.weight,
      heavier_rest c.args.sums.now.adders c.args.sums.now.levels.items c.args.adder c.args.rest c.requires.sums c.requires.adder c.requires.rest,
      s.lighter,
      c.requires.count,
    ))

pub returns-then-is_before-clause-kept : goal.returns-then-is_before-clause-kept
returns-then-is_before-clause-kept c =
    not_after_first c.args.sums.now.adders c.ranked-other.result.adder c.args.best.adder
    (before_is c.args.sums.now.adders c.ranked-other.result.adder c.args.best.adder c.ranked-other.result.rank c.args.best.rank
    c.ranked-other.ensures.candidate.ranked c.requires.best.ranked (c.is_before.ensures.0 c.if-is_before.true))

pub returns-then-is_before-clause-least : goal.returns-then-is_before-clause-least
returns-then-is_before-clause-least c =
    λ s. subst (λ (a : Adder). IsNotAfter c.args.sums.now.adders c.ranked-other.result.adder a) c.ranked-other.ensures.adder
    (not_after_itself c.args.sums.now.adders c.ranked-other.result.adder)

pub returns-else-is_before-clause-kept : goal.returns-else-is_before-clause-kept
returns-else-is_before-clause-kept c = not_after_itself c.args.sums.now.adders c.args.best.adder

pub returns-else-is_before-clause-least : goal.returns-else-is_before-clause-least
returns-else-is_before-clause-least c =
    λ s before. true≢false (sym (c.is_before.ensures.1
    (ranks_are c.args.sums.now.adders c.ranked-other.result.adder c.args.best.adder c.ranked-other.result.rank c.args.best.rank
    c.ranked-other.ensures.candidate.ranked c.requires.best.ranked
    (subst (λ (a : Adder). IsBefore c.args.sums.now.adders a c.args.best.adder) (sym c.ranked-other.ensures.adder) before)))
    ∙ c.if-is_before.false)
