use Rattle.std.proofs.Common.{◌≡◌, get_or, ap, sym, ◌∙◌}
use Rattle.std.specs.List.{flat_map}
use Rattle.std.proofs.lemmas.List.{take_all}
use Rattle.opgen_vhdl.specs.DesignText.{signal_text}
use Rattle.opgen_write.proofs.Paging.{comes_item, comes_as}
use Rattle.opgen_write.proofs.architecture.put_signals.Goals as goal

pub signals-preserved : goal.signals-preserved
signals-preserved g c =
    let items = c.as_slice-signal-items.result.now in
    let i = c.signals.signal-index in
    let x = c.signal-item.result in
    let same : get_or items i x ≡ x = sym c.signal-item.is in
    comes_item signal_text items i x _ _ _ _ _ _ _ _ _ c.signals-test.true c.signals.invariant
    (c.put_made.ensures (signal_text (get_or items i x)) (rw same c.signal_line.ensures))

pub returns : goal.returns
returns g c =
    comes_as _ _ _ _ _ _ _ _
    (ap (flat_map signal_text) (take_all c.signals.signal-index c.as_slice-signal-items.result.now c.signals-test.false
    ∙ c.as_slice-signal-items.ensures)) c.signals.invariant
