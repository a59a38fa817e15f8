use Rattle.opgen_shared.specs.Sums.{placed_by}
use Rattle.opgen_shared.proofs.Covering.{is_sum, least_made}
use Rattle.opgen_shared.proofs.StepLaws.{sum_step, rest_first}
use Rattle.opgen_shared.proofs.steps.with_sum.Goals as goal

pub better-requires-clause-adder : goal.better-requires-clause-adder
better-requires-clause-adder c =
    sum_step c.adder_of-adder.result c.args.number c.args.operand _ _ c.adder_of-adder.ensures c.requires.number c.requires.operand
    c.split_odd-rest.ensures.odd c.split_odd-rest.ensures.product

pub better-requires-clause-rest : goal.better-requires-clause-rest
better-requires-clause-rest c = rest_first (placed_by c.args.sums.now.adders) _ _ _ _ _ _ c.adder_of-adder.ensures c.requires.stands

pub returns-clause-least : goal.returns-clause-least
returns-clause-least c =
    λ a s is. least_made c.args.sums.now.adders c.args.number c.better.result.adder a c.adder_of-adder.result c.better.ensures.least s
    (is_sum c.args.sums.now.adders a c.adder_of-adder.result c.args.number c.args.operand _ _ c.adder_of-adder.ensures
    c.split_odd-rest.ensures.odd c.split_odd-rest.ensures.product s is)
