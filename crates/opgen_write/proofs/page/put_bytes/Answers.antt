use Rattle.std.proofs.Common.{get_or, take, ◌∷◌, [], sym}
use Rattle.std.proofs.lemmas.List.{take_all, take_more}
use Rattle.opgen_write.proofs.Paging.{comes_none, comes_then, comes_as}
use Rattle.opgen_write.proofs.page.put_bytes.Goals as goal

pub loop-byte-init : goal.loop-byte-init
loop-byte-init g c = comes_none c.args.page.now (g.K.Sink.taken c.args.out.now) (g.K.Sink.faults c.args.out.now)

pub loop-byte-preserved : goal.loop-byte-preserved
loop-byte-preserved g c =
    let bytes = c.args.bytes.now in
    let i = c.loop-byte.byte-index in
    comes_as c.args.page.now c.put_byte.new.page (g.K.Sink.taken c.args.out.now) (g.K.Sink.taken c.put_byte.new.out)
    (g.K.Sink.faults c.args.out.now) (g.K.Sink.faults c.put_byte.new.out) _ _ (sym (take_more bytes i 0 c.loop-byte-test.true))
    (comes_then c.args.page.now c.loop-byte.page c.put_byte.new.page (g.K.Sink.taken c.args.out.now) (g.K.Sink.taken c.loop-byte.out)
    (g.K.Sink.taken c.put_byte.new.out) (g.K.Sink.faults c.args.out.now) (g.K.Sink.faults c.loop-byte.out)
    (g.K.Sink.faults c.put_byte.new.out) (take i bytes) (get_or bytes i 0 ∷ []) c.loop-byte.invariant c.put_byte.ensures)

pub returns : goal.returns
returns g c = comes_as c.args.page.now c.loop-byte.page (g.K.Sink.taken c.args.out.now) (g.K.Sink.taken c.loop-byte.out)
    (g.K.Sink.faults c.args.out.now) (g.K.Sink.faults c.loop-byte.out) _ _
    (take_all c.loop-byte.byte-index c.args.bytes.now c.loop-byte-test.false) c.loop-byte.invariant
