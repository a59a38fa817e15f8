use Rattle.std.proofs.Common.{◌≡◌, ◌≤◌, length, sym, ap, ◌∙◌, subst}
use Rattle.std.specs.Prelude.{All, slice_index}
use Rattle.opgen_net.specs.Valid.{widths}
use Rattle.opgen_net.specs.WordRule.{IsThere}
use Rattle.opgen_constdiv.specs.Recipe.{Divided, with_results}
use Rattle.opgen_constdiv.specs.Steps.{HoldsAfterEachDigit}
use Rattle.opgen_constdiv.proofs.Whole.{at_last, enough, table-wide, digits_hold}
use Rattle.opgen_constdiv.proofs.digits.division_net.Goals as goal

pub output_results-requires-clause-enough : goal.output_results-requires-clause-enough
output_results-requires-clause-enough c =
    subst (λ (d : Divided). c.args.width ≤ length d.quotient) c.in_ok-division.ensures.ok
    (enough c.args.width c.args.divisor c.requires.input c.requires.small)

pub output_results-requires-clause-there : goal.output_results-requires-clause-there
output_results-requires-clause-there c =
    subst (λ (d : Divided). All (IsThere (widths d.net.nodes)) d.quotient) c.in_ok-division.ensures.ok
    (at_last c.args.width c.args.divisor c.requires.input c.requires.small).quotient

pub output_results-requires-clause-table : goal.output_results-requires-clause-table
output_results-requires-clause-table c =
    subst (λ (d : Divided). slice_index (widths d.net.nodes) d.table ≡ 6) c.in_ok-division.ensures.ok
    (table-wide c.args.width c.args.divisor c.requires.input c.requires.small)

pub returns-clause-digits : goal.returns-clause-digits
returns-clause-digits c =
    let w = c.args.width in
    let d = c.args.divisor in
    let made = c.in_ok-output_results.ensures.ok ∙ ap (with_results c.args.exact w d) (sym c.in_ok-division.ensures.ok) in
    subst (HoldsAfterEachDigit w d) (sym made) (digits_hold w d c.requires.input c.requires.small c.args.exact)
