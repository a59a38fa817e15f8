use Rattle.std.proofs.Common.{◌≡◌, ◌+◌, ◌<◌, false, [], drop, length, get_or, ap, ◌∙◌, subst, arith}
use Rattle.std.proofs.lemmas.List.{drop_more}
use Rattle.opgen_terms.specs.declared.sop.Times.{Times}
use Rattle.opgen_sop.specs.Recipe.{with_times}
use Rattle.opgen_sop.specs.Summed.{HasTimes, AreSummed}
use Rattle.opgen_sop.proofs.Steps.{times-step, times-made}
use Rattle.opgen_sop.proofs.products.add_all_times.Goals as goal

pub terms-preserved : goal.terms-preserved
terms-preserved c =
    let s = c.args.sop.now in
    let g = c.args.guard in
    let k = c.terms.term-index in
    let old = c.terms.work in
    let new = c.add_times.new.work in
    let none : Times = record { a = 0; b = 0; negative = false } in
    let items : c.as_slice-term-items.result.now ≡ s.products = c.as_slice-term-items.ensures in
    let within : k < length s.products = omega (arith, c.terms-test.true, ap length items) in
    let made = c.in_ok-add_times.ensures.ok ∙ ap (λ l. with_times s g (get_or l k none) old) items in
    let term : HasTimes s g (get_or s.products k none) old new =
    subst (λ l. HasTimes s g (get_or l k none) old new) items c.in_ok-add_times.ensures.sum in
    record {
      made = times-made s g s.products k none old new _ within c.terms.invariant.made made;
      stands = c.in_ok-add_times.ensures.stands;
      summed = times-step s g (get_or s.products k none) (drop (k + 1) s.products) old new
          (subst (λ l. AreSummed s g [] l old) (drop_more s.products k none within) c.terms.invariant.summed) term;
    }
