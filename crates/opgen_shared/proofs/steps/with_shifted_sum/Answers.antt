use Rattle.std.proofs.Common.{arith}
use Rattle.opgen_shared.specs.Sums.{placed_by}
use Rattle.opgen_shared.proofs.Covering.{is_shifted_sum, far_rest, least_made}
use Rattle.opgen_shared.proofs.Ranking.{not_after_itself}
use Rattle.opgen_shared.proofs.StepLaws.{shifted_sum_step, rest_second}
use Rattle.opgen_shared.proofs.steps.with_shifted_sum.Goals as goal

pub returns-then-rest-ge-LIMIT-clause-kept : goal.returns-then-rest-ge-LIMIT-clause-kept
returns-then-rest-ge-LIMIT-clause-kept c = not_after_itself c.args.sums.now.adders c.args.best.adder

pub returns-then-rest-ge-LIMIT-clause-least : goal.returns-then-rest-ge-LIMIT-clause-least
returns-then-rest-ge-LIMIT-clause-least c =
    λ a s is. absurd (omega (
      arith,
      c.if-rest-ge-LIMIT.true,
      s.adder.v.1,
      far_rest c.args.sums.now.adders a c.args.number c.args.by c.requires.shifted s is,
    ))

pub better-requires-clause-adder : goal.better-requires-clause-adder
better-requires-clause-adder c =
    shifted_sum_step c.adder_of-adder.result c.args.number c.args.by c.adder_of-adder.ensures c.requires.number c.requires.shifted
    (omega (arith, c.if-rest-ge-LIMIT.false))

pub better-requires-clause-rest : goal.better-requires-clause-rest
better-requires-clause-rest c = rest_second (placed_by c.args.sums.now.adders) _ _ _ _ _ _ c.adder_of-adder.ensures c.requires.stands

pub returns-clause-least : goal.returns-clause-least
returns-clause-least c =
    λ a s is. least_made c.args.sums.now.adders c.args.number c.better.result.adder a c.adder_of-adder.result c.better.ensures.least s
    (is_shifted_sum c.args.sums.now.adders a c.adder_of-adder.result c.args.number c.args.by c.adder_of-adder.ensures c.requires.shifted s is)
