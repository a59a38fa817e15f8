use Rattle.std.proofs.Common.{Some, sym, ap, ◌∙◌, arith}
use Rattle.std.proofs.lemmas.List.{length-take-le}
use Rattle.opgen_design.specs.Plain.{plain}
use Rattle.opgen_lanes.specs.Banks.{widths_of}
use Rattle.opgen_lanes.proofs.Fits.{within}
use Rattle.opgen_lanes.proofs.evaluate.lend.Goals as goal

pub slice_bounds-result-end : goal.slice_bounds-result-end
slice_bounds-result-end c =
    let w = c.evaluate-width.result in
    let out = c.evaluate-width.new.out in
    sym (length-take-le w out (within (widths_of c.args.signals.now) (widths_of c.args.ports.now) (plain c.args.expr.now) w out
    c.evaluate-width.ensures.width (omega (arith, c.evaluate-width.auto.out, c.requires.spare))))

pub returns-in-None-clause-width : goal.returns-in-None-clause-width
returns-in-None-clause-width c =
    let w = c.evaluate-width.result in
    let out = c.evaluate-width.new.out in
    c.evaluate-width.ensures.width
    ∙ ap Some (sym (length-take-le w out (within (widths_of c.args.signals.now) (widths_of c.args.ports.now) (plain c.args.expr.now) w out
    c.evaluate-width.ensures.width (omega (arith, c.evaluate-width.auto.out, c.requires.spare)))))
