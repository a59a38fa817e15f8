use Rattle.std.proofs.Common.{inl, inr, arith}
use Rattle.opgen_shared.specs.Sums.{placed_by}
use Rattle.opgen_shared.proofs.Covering.{is_shifted_distance, near_rest, least_made}
use Rattle.opgen_shared.proofs.Ranking.{not_after_itself}
use Rattle.opgen_shared.proofs.StepLaws.{IsNear, even_shifted, shifted_distance_step, rest_second}
use Rattle.opgen_shared.proofs.steps.with_shifted_distance.Goals.{then-by-number, else-by-number}
use Rattle.opgen_shared.proofs.steps.with_shifted_distance.Goals as goal

pub returns-then-rest-ge-LIMIT-clause-kept : goal.returns-then-rest-ge-LIMIT-clause-kept
returns-then-rest-ge-LIMIT-clause-kept c = not_after_itself c.args.sums.now.adders c.args.best.adder

pub returns-then-rest-ge-LIMIT-clause-least : goal.returns-then-rest-ge-LIMIT-clause-least
returns-then-rest-ge-LIMIT-clause-least c =
    λ a s is. absurd (omega (
      arith,
      c.if-rest-ge-LIMIT.true,
      c.abs_diff-rest.ensures,
      s.adder.v.1,
      near_rest c.args.sums.now.adders a c.args.number c.args.by c.requires.shifted s is,
    ))

pub better-requires-clause-adder : goal.better-requires-clause-adder
better-requires-clause-adder c =
    let n = c.args.number in
    let size = c.args.by.size in
    let rest = c.abs_diff-rest.result in
    let form = c.if-by-number.form in
    let way : IsNear n size rest form =
    elim c.if-by-number.branch [
      | then-by-number w ↦ inl (w.form-is, omega (arith, c.abs_diff-rest.ensures, w.if-by-number.true))
      | else-by-number w ↦ inr (w.form-is, omega (arith, c.abs_diff-rest.ensures, w.if-by-number.false))
    ] in
    shifted_distance_step c.adder_of-adder.result n rest c.args.by form c.adder_of-adder.ensures c.requires.number c.requires.shifted
    (omega (arith, c.if-rest-ge-LIMIT.false)) way

pub better-requires-clause-rest : goal.better-requires-clause-rest
better-requires-clause-rest c = rest_second (placed_by c.args.sums.now.adders) _ _ _ _ _ _ c.adder_of-adder.ensures c.requires.stands

pub returns-clause-least : goal.returns-clause-least
returns-clause-least c =
    let n = c.args.number in
    let size = c.args.by.size in
    let rest = c.abs_diff-rest.result in
    let form = c.if-by-number.form in
    let way : IsNear n size rest form =
    elim c.if-by-number.branch [
      | then-by-number w ↦ inl (w.form-is, omega (arith, c.abs_diff-rest.ensures, w.if-by-number.true))
      | else-by-number w ↦ inr (w.form-is, omega (arith, c.abs_diff-rest.ensures, w.if-by-number.false))
    ] in
    let is_by = c.requires.shifted in
    λ a s is. least_made c.args.sums.now.adders n c.better.result.adder a c.adder_of-adder.result c.better.ensures.least s
    (is_shifted_distance c.args.sums.now.adders a c.adder_of-adder.result n rest c.args.by form c.adder_of-adder.ensures is_by way
    c.requires.number.0 (even_shifted c.args.by.shift c.args.by.operand size is_by.shifted is_by.product) s is)
