use Rattle.std.proofs.Common.{take, filter}
use Rattle.std.specs.List.{flat_map}
use Rattle.opgen_vhdl.specs.DesignText.{driver_text}
use Rattle.opgen_write.specs.Pages.{Comes}
use Rattle.opgen_write.specs.Places.{stands_in}
use Rattle.opgen_write.proofs.architecture.put_drivers.Given as goal

abbrev pub invariant-drivers : goal.invariant-drivers
invariant-drivers g l = Comes l.fn.page (g.K.Sink.taken l.fn.out) (g.K.Sink.faults l.fn.out)
    (flat_map (driver_text l.design) (filter (stands_in l.place) (take l.driver-index l.driver-items))) l.page (g.K.Sink.taken l.out)
    (g.K.Sink.faults l.out)
