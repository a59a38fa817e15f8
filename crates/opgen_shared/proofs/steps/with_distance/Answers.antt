use Rattle.std.proofs.Common.{inl, inr, arith}
use Rattle.opgen_shared.specs.Sums.{placed_by}
use Rattle.opgen_shared.proofs.Covering.{is_distance, least_made}
use Rattle.opgen_shared.proofs.StepLaws.{IsFar, distance_step, rest_first}
use Rattle.opgen_shared.proofs.steps.with_distance.Goals.{then-operand-number, else-operand-number}
use Rattle.opgen_shared.proofs.steps.with_distance.Goals as goal

pub better-requires-clause-adder : goal.better-requires-clause-adder
better-requires-clause-adder c =
    let n = c.args.number in
    let o = c.args.operand in
    let d = c.abs_diff.result in
    let way : IsFar n o d c.if-operand-number.form =
    elim c.if-operand-number.branch [
      | then-operand-number w ↦ inl (w.form-is, omega (arith, c.abs_diff.ensures, w.if-operand-number.true))
      | else-operand-number w ↦ inr (w.form-is, omega (arith, c.abs_diff.ensures, w.if-operand-number.false))
    ] in
    distance_step c.adder_of-adder.result n o d _ _ c.if-operand-number.form c.adder_of-adder.ensures c.requires.operand
    c.split_odd-rest.ensures.odd c.split_odd-rest.ensures.product
    (omega (arith, c.abs_diff.ensures, c.requires.number.0, c.requires.operand.0))
    (omega (arith, c.abs_diff.ensures, c.requires.number.1, c.requires.operand.1)) way

pub better-requires-clause-rest : goal.better-requires-clause-rest
better-requires-clause-rest c = rest_first (placed_by c.args.sums.now.adders) _ _ _ _ _ _ c.adder_of-adder.ensures c.requires.stands

pub returns-clause-least : goal.returns-clause-least
returns-clause-least c =
    let n = c.args.number in
    let o = c.args.operand in
    let d = c.abs_diff.result in
    let way : IsFar n o d c.if-operand-number.form =
    elim c.if-operand-number.branch [
      | then-operand-number w ↦ inl (w.form-is, omega (arith, c.abs_diff.ensures, w.if-operand-number.true))
      | else-operand-number w ↦ inr (w.form-is, omega (arith, c.abs_diff.ensures, w.if-operand-number.false))
    ] in
    λ a s is. least_made c.args.sums.now.adders n c.better.result.adder a c.adder_of-adder.result c.better.ensures.least s
    (is_distance c.args.sums.now.adders a c.adder_of-adder.result n o d _ _ c.if-operand-number.form c.adder_of-adder.ensures
    c.split_odd-rest.ensures.odd c.split_odd-rest.ensures.product way s is)
