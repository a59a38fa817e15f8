use Rattle.std.proofs.Common.{◌≡◌, ◌+◌, ◌-◌, ◌≤◌, sym, ap, ◌∙◌, subst, arith, rules}
use Rattle.std.proofs.lemmas.Grind.{common_steps}
use Rattle.std.specs.Prelude.{slice_index}
use Rattle.opgen_num.specs.declared.format.Format.{Format}
use Rattle.opgen_heap.specs.Contents.{Contents}
use Rattle.opgen_net.specs.Valid.{widths}
use Rattle.opgen_operator.specs.declared.operator.Operator.TheVariants.{Scale, Fir}
use Rattle.opgen_operator.specs.Fits.{FitsInEachMode}
use Rattle.opgen_kinds.specs.Sum.{guard_bits, sum_format}
use Rattle.opgen_fir.specs.Recipe.{net_of_sum, sum_width}
use Rattle.opgen_fir.proofs.Fits.{half-width}
use Rattle.opgen_fir.proofs.Whole.{fits_modes}
use Rattle.opgen_fir.proofs.filter.build.Goals as goal

pub output-requires-2-clause-lies : goal.output-requires-2-clause-lies
output-requires-2-clause-lies c =
    let g = c.guard_bits-guard.result in
    let guard : g ≡ guard_bits c.args.sum.now = c.guard_bits-guard.ensures.value in
    let out : c.output.result.width ≡ (sum_format c.args.sum.now).width = ap (λ (f : Format). f.width) c.output.ensures.value in
    let wide : slice_index (widths c.compress.new.net.nodes) c.in_ok-node.node ≡ sum_width c.args.sum.now =
    c.in_ok-node.ensures.width
    ∙ c.in_ok-counted.ensures.width
    ∙ ap (λ (h : Contents). h.width) c.add_half.ensures
    ∙ half-width g c.add_terms.new.heap
    ∙ c.in_ok-add_terms.ensures.more.width in
    (omega (arith, c.output.ensures.some), omega (arith, out, guard, wide, c.output.ensures.some))

pub returns-clause-fits : goal.returns-clause-fits
returns-clause-fits c =
    let s = c.args.sum.now in
    let net : c.output-2.new.self ≡ net_of_sum s = first_of (search rules, grind (arith, common_steps)) in
    let fits = fits_modes s c.requires.sum in
    (subst (FitsInEachMode (Scale s)) (sym net) fits.0, subst (FitsInEachMode (Fir s)) (sym net) fits.1)
