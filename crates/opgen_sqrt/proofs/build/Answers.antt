use Rattle.std.proofs.Common.{sym, ap, ◌∙◌, subst, codes}
use Rattle.opgen_operator.specs.declared.operator.Operator.TheVariants.{Root}
use Rattle.opgen_operator.specs.Fits.{FitsInEachMode}
use Rattle.opgen_digits.specs.Digit.{Known}
use Rattle.opgen_digits.specs.Results.{AreResults, with_results}
use Rattle.opgen_sqrt.specs.Steps.{HoldsAfterEachStep}
use Rattle.opgen_sqrt.proofs.Whole.{has_widths, root_bits, results, fits_modes, all_steps}
use Rattle.opgen_sqrt.proofs.build.Goals as goal

pub output_results-requires-clause-results : goal.output_results-requires-clause-results
output_results-requires-clause-results c =
    let r = c.args.single.now in
    subst (λ (k : Known). AreResults r.exact k) c.in_ok-digits.ensures.ok (results r (has_widths r c.requires) (root_bits r c.requires).0)

pub returns-clause-net : goal.returns-clause-net
returns-clause-net c =
    let r = c.args.single.now in
    c.in_ok-output_results.ensures.ok ∙ ap (with_results r.exact (codes "y")) (sym c.in_ok-digits.ensures.ok)

pub returns-clause-steps : goal.returns-clause-steps
returns-clause-steps c =
    let r = c.args.single.now in
    let made = c.in_ok-output_results.ensures.ok ∙ ap (with_results r.exact (codes "y")) (sym c.in_ok-digits.ensures.ok) in
    subst (HoldsAfterEachStep r) (sym made) (all_steps r c.requires)

pub returns-clause-fits : goal.returns-clause-fits
returns-clause-fits c =
    let r = c.args.single.now in
    let made = c.in_ok-output_results.ensures.ok ∙ ap (with_results r.exact (codes "y")) (sym c.in_ok-digits.ensures.ok) in
    subst (FitsInEachMode (Root r)) (sym made) (fits_modes r c.requires)
