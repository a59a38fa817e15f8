use Rattle.std.proofs.Common.{take}
use Rattle.std.specs.List.{flat_map}
use Rattle.opgen_vhdl.specs.DesignText.{signal_text}
use Rattle.opgen_write.specs.Pages.{Comes}
use Rattle.opgen_write.proofs.architecture.put_signals.Given as goal

abbrev pub invariant-signals : goal.invariant-signals
invariant-signals g l = Comes l.fn.page (g.K.Sink.taken l.fn.out) (g.K.Sink.faults l.fn.out)
    (flat_map signal_text (take l.signal-index l.signal-items)) l.page (g.K.Sink.taken l.out) (g.K.Sink.faults l.out)
