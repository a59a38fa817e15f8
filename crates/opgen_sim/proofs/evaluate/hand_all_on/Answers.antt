use Rattle.std.proofs.Common.{◌≡◌, ◌<◌, ◌+◌, ◌∷◌, drop, sym, ap, ◌∙◌, subst, map, length}
use Rattle.std.specs.Prelude.{IfSome}
use Rattle.std.proofs.lemmas.List.{drop_more, length-map}
use Rattle.std.proofs.lemmas.Option.{slice_get_within, get_or_from_slice_get}
use Rattle.opgen_design.specs.Run.{Words}
use Rattle.opgen_design.specs.Sound.{signal_widths}
use Rattle.opgen_runs.specs.Evaluate.{HaveWidths, hand_all_on}
use Rattle.opgen_runs.proofs.Widths.{narrow, agree-at, driver-fits, declared-there}
use Rattle.opgen_runs.proofs.Registers.{enable-there, hand_on-widths}
use Rattle.opgen_sim.proofs.evaluate.hand_all_on.Goals as goal

pub hand_on-requires-clause-narrow : goal.hand_on-requires-clause-narrow
hand_on-requires-clause-narrow c = narrow c.args.design.now c.requires.sound
    (record { signals = c.args.signals.now; ports = c.args.ports.now }) c.requires.widths

pub hand_on-requires-clause-fits : goal.hand_on-requires-clause-fits
hand_on-requires-clause-fits c = driver-fits c.args.design.now c.requires.sound
    (record { signals = c.args.signals.now; ports = c.args.ports.now }) c.requires.widths c.get.result.now
    (agree-at c.args.design.now c.requires.sound c.loop-place.place c.get.result.now c.get.ensures)

pub hand_on-requires-clause-enable : goal.hand_on-requires-clause-enable
hand_on-requires-clause-enable c =
    let d = c.args.design.now in
    let n : length d.ports ≡ length c.args.ports.now =
    sym (length-map d.ports (λ p. p.width)) ∙ sym (ap length c.requires.widths.ports) ∙ length-map c.args.ports.now length in
    subst (λ n. IfSome d.enable (λ p. p < n)) n (enable-there d c.requires.sound)

pub hand_on-requires-clause-there : goal.hand_on-requires-clause-there
hand_on-requires-clause-there c =
    declared-there c.args.design.now c.requires.sound (record { signals = c.args.signals.now; ports = c.args.ports.now })
    c.requires.widths c.loop-place.place c.get.result.now c.get.ensures

pub hand_on-requires-clause-room : goal.hand_on-requires-clause-room
hand_on-requires-clause-room c =
    let w : HaveWidths c.args.design.now (record { signals = c.loop-place.next; ports = c.args.ports.now }) = record
    { signals = c.loop-place.invariant.widths; ports = c.requires.widths.ports } in
    declared-there c.args.design.now c.requires.sound (record { signals = c.loop-place.next; ports = c.args.ports.now }) w
    c.loop-place.place c.get.result.now c.get.ensures

pub loop-place-preserved : goal.loop-place-preserved
loop-place-preserved c =
    let d = c.args.design.now in
    let i = c.loop-place.place in
    let k = c.get.result.now in
    let v : Words = record { signals = c.args.signals.now; ports = c.args.ports.now } in
    let split = drop_more d.drivers i k (slice_get_within d.drivers i k c.get.ensures)
    ∙ ap (λ m. m ∷ drop (i + 1) d.drivers) (get_or_from_slice_get d.drivers i k k c.get.ensures) in
    record {
      same = ap (hand_all_on d.enable (drop (i + 1) d.drivers) v) c.hand_on.ensures
          ∙ sym (ap (λ ks. hand_all_on d.enable ks v c.loop-place.next) split) ∙ c.loop-place.invariant.same;
      widths = subst (λ n. map length n ≡ signal_widths d) (sym c.hand_on.ensures)
          (hand_on-widths d c.requires.sound v c.requires.widths k c.loop-place.next (agree-at d c.requires.sound i k c.get.ensures)
          c.loop-place.invariant.widths);
    }
