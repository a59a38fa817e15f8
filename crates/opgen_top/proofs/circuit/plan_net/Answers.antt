use Rattle.std.proofs.Common.{arith}
use Rattle.opgen_top.proofs.Outcomes.{planned_below, planned_since}
use Rattle.opgen_top.proofs.circuit.plan_net.Goals as goal

pub returns-then-spec-lt4 : goal.returns-then-spec-lt4
returns-then-spec-lt4 g c =
    planned_below c.args.spec.now c.args.enable _ c.args.net.now _ c.as_str-name.ensures (omega (arith, c.if-spec-lt4.true)) c.plan.result
    c.plan.ensures.outcome

pub returns-else-spec-lt4 : goal.returns-else-spec-lt4
returns-else-spec-lt4 g c =
    planned_since c.args.spec.now c.args.enable _ c.args.net.now _ c.as_str-name.ensures (omega (arith, c.if-spec-lt4.false))
    c.cut_and_plan.result c.cut_and_plan.ensures.outcome
