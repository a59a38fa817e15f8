use Rattle.opgen_sim.proofs.TableLaws.{tables-more}
use Rattle.opgen_sim.proofs.tables.tables.Goals as goal

pub loop-driver-preserved : goal.loop-driver-preserved
loop-driver-preserved c =
    tables-more c.args.drivers.now c.loop-driver.tables.items c.push.new.self.items c.loop-driver.driver-index c.driver-item.result
    c.in_ok-table.field-0 c.loop-driver-test.true c.driver-item.is c.in_ok-push.ensures.items c.loop-driver.invariant
    c.in_ok-table.ensures
