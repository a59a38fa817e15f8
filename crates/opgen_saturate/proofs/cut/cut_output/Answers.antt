use Rattle.std.proofs.Common.{◌≡◌, None, sym, subst, ◌∙◌}
use Rattle.std.proofs.lemmas.Result.{IfOk-weaker}
use Rattle.opgen_operator.specs.Fits.{FitsSpec}
use Rattle.opgen_operator.specs.Outputs.{mode_of}
use Rattle.opgen_operator.proofs.Accepted.{plain_fits}
use Rattle.opgen_saturate.proofs.ChosenNets.{cut_formats, cut_fits_by}
use Rattle.opgen_saturate.proofs.cut.cut_output.Goals as goal

pub convert_output-requires-clause-net : goal.convert_output-requires-clause-net
convert_output-requires-clause-net c = (c.requires.fits (mode_of c.args.spec.now) c.requires.valid.mode).valid

pub convert_output-requires-clause-formats : goal.convert_output-requires-clause-formats
convert_output-requires-clause-formats c =
    let some : c.args.spec.now.out_width ≡ None → ⊥ = λ none. (let both = sym (c.cut.ensures.none.1 none) ∙ c.in-Some.is in cc) in
    cut_formats c.args.spec.now c.args.net.now c.requires.valid c.requires.fits c.in-Some.cut.from c.in-Some.cut.to
    some c.in-Some.ensures.from c.in-Some.ensures.to

pub returns-in-Some-clause-fits : goal.returns-in-Some-clause-fits
returns-in-Some-clause-fits c =
    let some : c.args.spec.now.out_width ≡ None → ⊥ = λ none. (let both = sym (c.cut.ensures.none.1 none) ∙ c.in-Some.is in cc) in
    let fits = cut_fits_by c.args.spec.now c.args.net.now c.requires.valid c.requires.fits c.in-Some.cut.from c.in-Some.cut.to
    some c.in-Some.ensures.from c.in-Some.ensures.to in
    IfOk-weaker c.convert_output.result _ _ (λ _ e. subst (FitsSpec c.args.spec.now) (sym e) fits) c.convert_output.ensures.ok

pub returns-in-None-clause-fits : goal.returns-in-None-clause-fits
returns-in-None-clause-fits c =
    plain_fits c.args.spec.now c.args.net.now (c.cut.ensures.none.0 c.in-None.is) (c.requires.fits (mode_of c.args.spec.now) c.requires.valid.mode)

pub returns-in-None-clause-valid : goal.returns-in-None-clause-valid
returns-in-None-clause-valid c = (c.requires.fits (mode_of c.args.spec.now) c.requires.valid.mode).valid
