use Rattle.std.proofs.Common.{◌≡◌, ◌+◌, ◌<◌, drop, length, get_or, ap, ◌∙◌, subst, arith}
use Rattle.std.specs.Prelude.{pos}
use Rattle.std.proofs.lemmas.List.{drop_more}
use Rattle.opgen_terms.specs.declared.sop.Scaled.{Scaled}
use Rattle.opgen_sop.specs.Recipe.{with_scaled}
use Rattle.opgen_sop.specs.Summed.{HasScaled, AreSummed}
use Rattle.opgen_sop.proofs.Steps.{scaled-step, scaled-made}
use Rattle.opgen_sop.proofs.scaled.add_all_scaled.Goals as goal

pub terms-preserved : goal.terms-preserved
terms-preserved c =
    let s = c.args.sop.now in
    let g = c.args.guard in
    let k = c.terms.term-index in
    let old = c.terms.work in
    let new = c.add_scaled.new.work in
    let none : Scaled = record { input = 0; coefficient = pos 0 } in
    let items : c.as_slice-term-items.result.now ≡ s.scaled = c.as_slice-term-items.ensures in
    let within : k < length s.scaled = omega (arith, c.terms-test.true, ap length items) in
    let made = c.in_ok-add_scaled.ensures.ok ∙ ap (λ l. with_scaled s g (get_or l k none) old) items in
    let term : HasScaled s g (get_or s.scaled k none) old new =
    subst (λ l. HasScaled s g (get_or l k none) old new) items c.in_ok-add_scaled.ensures.sum in
    record {
      made = scaled-made s g s.scaled k none old new _ within c.terms.invariant.made made;
      stands = c.in_ok-add_scaled.ensures.stands;
      summed = scaled-step s g (get_or s.scaled k none) (drop (k + 1) s.scaled) s.products old new
          (subst (λ l. AreSummed s g l s.products old) (drop_more s.scaled k none within) c.terms.invariant.summed) term;
    }
