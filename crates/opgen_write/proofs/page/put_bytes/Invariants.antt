use Rattle.std.proofs.Common.{take}
use Rattle.opgen_write.specs.Pages.{Comes}
use Rattle.opgen_write.proofs.page.put_bytes.Given as goal

abbrev pub invariant-loop-byte : goal.invariant-loop-byte
invariant-loop-byte g l = Comes l.fn.page (g.K.Sink.taken l.fn.out) (g.K.Sink.faults l.fn.out) (take l.byte-index l.bytes) l.page
    (g.K.Sink.taken l.out) (g.K.Sink.faults l.out)
