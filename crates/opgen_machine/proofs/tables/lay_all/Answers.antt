use Rattle.std.proofs.Common.{length, sym, subst}
use Rattle.opgen_machine.specs.Laid.{CanBeLaid}
use Rattle.opgen_machine.proofs.Laying.{grown-more, laid-more}
use Rattle.opgen_machine.proofs.tables.lay_all.Goals as goal

pub lay-requires : goal.lay-requires
lay-requires c = subst CanBeLaid (sym c.driver-item.is)
    (c.requires c.loop-driver.driver-index c.driver-item.result c.loop-driver-test.true)

pub loop-driver-preserved : goal.loop-driver-preserved
loop-driver-preserved c =
    let first = c.args.memory.now.items in
    let mid = c.loop-driver.memory.items in
    let last = c.lay.new.memory.items in
    let h = c.loop-driver.invariant in
    record {
      grown = grown-more first mid last h.grown c.in_ok-place.ensures.grown;
      laid = laid-more (length first) mid last c.args.drivers.now c.loop-driver.places.items c.push.new.self.items
          c.loop-driver.driver-index c.in_ok-place.place c.driver-item.result c.in_ok-place.ensures.grown c.loop-driver-test.true
          c.driver-item.is
          h.laid (c.in_ok-place.ensures.laid (length first) h.grown.longer) c.in_ok-push.ensures.items;
    }
