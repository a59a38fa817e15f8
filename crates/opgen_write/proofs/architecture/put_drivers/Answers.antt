use Rattle.std.proofs.Common.{◌≡◌, get_or, filter, ap, sym, ◌∙◌}
use Rattle.std.specs.List.{flat_map}
use Rattle.std.proofs.lemmas.List.{take_all}
use Rattle.opgen_vhdl.specs.DesignText.{driver_text, drivers_text}
use Rattle.opgen_write.specs.Places.{stands_in}
use Rattle.opgen_write.proofs.Paging.{comes_passing, comes_failing, comes_as}
use Rattle.opgen_write.proofs.architecture.put_drivers.Goals.{then-stands_in, else-stands_in}
use Rattle.opgen_write.proofs.architecture.put_drivers.Goals as goal

pub drivers-preserved : goal.drivers-preserved
drivers-preserved g c =
    let items = c.as_slice-driver-items.result.now in
    let i = c.drivers.driver-index in
    let x = c.driver-item.result in
    let f = driver_text c.args.design.now in
    let test = stands_in c.args.place in
    let same : get_or items i x ≡ x = sym c.driver-item.is in
    elim c.if-stands_in.branch [
      | then-stands_in w ↦
          rw (w.page-is, w.out-is) (comes_passing f test items i x _ _ _ _ _ _ _ _ _ c.drivers-test.true (ap test same
          ∙ sym c.stands_in.ensures ∙ w.if-stands_in.true) c.drivers.invariant
          (w.put_made.ensures (f (get_or items i x)) (rw same w.statement.ensures)))
      | else-stands_in w ↦
          rw (w.page-is, w.out-is) (comes_failing f test items i x _ _ _ _ _ _ c.drivers-test.true (ap test same
          ∙ sym c.stands_in.ensures ∙ w.if-stands_in.false) c.drivers.invariant)
    ]

pub returns : goal.returns
unfolding drivers_text
returns g c =
    comes_as _ _ _ _ _ _ _ _ (ap (λ ds. flat_map (driver_text c.args.design.now) (filter (stands_in c.args.place) ds))
    (take_all c.drivers.driver-index c.as_slice-driver-items.result.now c.drivers-test.false
    ∙ c.as_slice-driver-items.ensures)) c.drivers.invariant
