use Rattle.std.proofs.Common.{◌∙◌, ◌∷◌, [], ◌++◌, ap, arith, rules, FitsSigned, w64}
use Rattle.std.proofs.lemmas.Int.{to_z-of_z}
use Rattle.opgen_workload.proofs.Drawn.{taps_more}
use Rattle.opgen_workload.proofs.filter.coefficients.Goals as goal

pub taps-preserved : goal.taps-preserved
taps-preserved c =
    let fits : FitsSigned w64 c.coefficient.result = search rules in
    let pushed = c.in_ok-push.ensures.ok ∙ ap (λ z. c.taps.coefs ++ z ∷ []) (to_z-of_z w64 c.coefficient.result fits) in
    taps_more _ c.taps.coefs c.push.new.self c.taps.left c.taps.state c.next-state.result c.coefficient.result c.taps.invariant
    (omega (arith, c.taps-test.true))
    c.next-state.ensures c.coefficient.ensures pushed
