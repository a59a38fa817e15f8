use Rattle.std.proofs.Common.{inr, sym, ◌∙◌}
use Rattle.opgen_net.specs.declared.cell.Class.TheVariants.{Wire}
use Rattle.opgen_operator.specs.declared.spec.DelayLine.{DelayLine}
use Rattle.opgen_top.proofs.Chosen.{tuned_next}
use Rattle.opgen_top.proofs.targets.takes_all.Goals as goal

pub lines-preserved : goal.lines-preserved
lines-preserved g c =
    let now = c.lines.invariant in
    let d : DelayLine = record { class = Wire; base = 0; per_bit = 0 } in
    record {
      adjustable = c.takes.ensures.adjustable ∙ now.adjustable;
      begun = inr (sym now.adjustable ∙ sym c.takes.ensures.takes ∙ c.if-not-takes.false);
      tuned = tuned_next _ _ c.args.lines.now c.lines.line-index d c.lines-test.true (c.takes.ensures.tuned c.if-not-takes.false)
          ∙ now.tuned;
    }
