use Rattle.std.proofs.Common.{◌+◌, ◌≤◌, length, sym, ap, ◌∙◌, subst, codes}
use Rattle.opgen_num.specs.declared.format.TheConstants.{MAX_WIDTH}
use Rattle.opgen_kinds.specs.Pair.{sign_bit}
use Rattle.opgen_operator.specs.declared.operator.Operator.TheVariants.{Divide}
use Rattle.opgen_operator.specs.Fits.{FitsInEachMode}
use Rattle.opgen_digits.specs.Digit.{Known}
use Rattle.opgen_digits.specs.Results.{AreResults, with_results}
use Rattle.opgen_divide.specs.Inputs.{HasInputs}
use Rattle.opgen_divide.specs.Recipe.{with_signs}
use Rattle.opgen_divide.specs.Steps.{DividesSizes, HoldsAfterEachStep}
use Rattle.opgen_divide.proofs.Whole.{has_widths, divided-results, last-inputs, last-few, results, fits_modes, all_sizes, all_steps}
use Rattle.opgen_divide.proofs.build.Goals as goal

pub with_signs-requires-clause-inputs : goal.with_signs-requires-clause-inputs
with_signs-requires-clause-inputs c =
    let p = c.args.pair.now in
    subst (λ (k : Known). HasInputs p k.net) c.in_ok-digits.ensures.ok (last-inputs p (has_widths p c.requires))

pub with_signs-requires-clause-few : goal.with_signs-requires-clause-few
with_signs-requires-clause-few c =
    let p = c.args.pair.now in
    subst (λ (k : Known). length k.digits + sign_bit p.a.signed ≤ MAX_WIDTH) c.in_ok-digits.ensures.ok (last-few p (has_widths p c.requires))

pub with_signs-requires-clause-results : goal.with_signs-requires-clause-results
with_signs-requires-clause-results c =
    let p = c.args.pair.now in
    subst (λ (k : Known). AreResults p.exact k) c.in_ok-digits.ensures.ok (divided-results p (has_widths p c.requires))

pub output_results-requires-clause-results : goal.output_results-requires-clause-results
output_results-requires-clause-results c =
    let p = c.args.pair.now in
    let all = ap (with_signs p) c.in_ok-digits.ensures.ok ∙ c.in_ok-results.ensures.ok in
    subst (λ (k : Known). AreResults p.exact k) all (results p (has_widths p c.requires))

pub returns-clause-net : goal.returns-clause-net
returns-clause-net c =
    let p = c.args.pair.now in
    let all = ap (with_signs p) c.in_ok-digits.ensures.ok ∙ c.in_ok-results.ensures.ok in
    c.in_ok-output_results.ensures.ok ∙ ap (with_results p.exact (codes "q")) (sym all)

pub returns-clause-sizes : goal.returns-clause-sizes
returns-clause-sizes c =
    let p = c.args.pair.now in
    let all = ap (with_signs p) c.in_ok-digits.ensures.ok ∙ c.in_ok-results.ensures.ok in
    let made = c.in_ok-output_results.ensures.ok ∙ ap (with_results p.exact (codes "q")) (sym all) in
    subst (DividesSizes p) (sym made) (all_sizes p c.requires)

pub returns-clause-steps : goal.returns-clause-steps
returns-clause-steps c =
    let p = c.args.pair.now in
    let all = ap (with_signs p) c.in_ok-digits.ensures.ok ∙ c.in_ok-results.ensures.ok in
    let made = c.in_ok-output_results.ensures.ok ∙ ap (with_results p.exact (codes "q")) (sym all) in
    subst (HoldsAfterEachStep p) (sym made) (all_steps p c.requires)

pub returns-clause-fits : goal.returns-clause-fits
returns-clause-fits c =
    let p = c.args.pair.now in
    let all = ap (with_signs p) c.in_ok-digits.ensures.ok ∙ c.in_ok-results.ensures.ok in
    let made = c.in_ok-output_results.ensures.ok ∙ ap (with_results p.exact (codes "q")) (sym all) in
    subst (FitsInEachMode (Divide p)) (sym made) (fits_modes p c.requires)
