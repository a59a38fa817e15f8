use Rattle.std.proofs.Common.{length, sym, ap, ◌∙◌, subst}
use Rattle.std.specs.Prelude.{All, ◌≤◌, min}
use Rattle.opgen_schedule.specs.declared.slot.Slot.{Slot}
use Rattle.opgen_schedule.specs.Fitting.{does_fit}
use Rattle.opgen_schedule.specs.Moves.{timed}
use Rattle.opgen_schedule.specs.Schedule.{latency}
use Rattle.opgen_schedule.specs.Stage.{slot_at}
use Rattle.opgen_schedule.proofs.Graphs.{test-early}
use Rattle.opgen_pipe.specs.Copies.{net_latency, signal_count}
use Rattle.opgen_pipe.specs.Placed.{fewer, register_bits}
use Rattle.opgen_pipe.proofs.Placings.{left-is}
use Rattle.opgen_pipe.proofs.There.{outputs_there}
use Rattle.opgen_pipe.proofs.fewest.better.Goals as goal

pub latency-latency-requires-clause-there : goal.latency-latency-requires-clause-there
latency-latency-requires-clause-there c =
    outputs_there c.args.net.now c.requires.valid c.as_slice-3.result.now c.as_slice-3.ensures c.as_slice-4.result.now c.as_slice-4.ensures

pub returns-then-is_better-clause-measured : goal.returns-then-is_better-clause-measured
returns-then-is_better-clause-measured c =
    let net = c.args.net.now in
    let f = c.args.frame.now in
    let ps = c.in_ok-slots.slots.items in
    let long = c.in_ok-slots.ensures.one_each ∙ ap length c.as_slice.ensures in
    let fit = ap (does_fit f.room f.graph) (sym c.deref.ensures.value)
    ∙ ap (λ vs. does_fit f.room vs c.deref.result.now) (sym c.as_slice-2.ensures)
    ∙ sym c.fits.ensures ∙ c.if-not-fits.false in
    record {
      one_each = long ∙ c.requires.nodes;
      early = subst (λ n. All (λ (p : Slot). p.cycle ≤ n) ps) c.requires.nodes (test-early f.room f.graph ps long fit);
      bits =
          c.in_ok-signals.ensures.bits
          ∙ ap (λ qs. min (register_bits net (slot_at qs)) 18446744073709551615) c.deref-3.ensures.value;
    }

pub returns-else-is_better-clause-slots : goal.returns-else-is_better-clause-slots
returns-else-is_better-clause-slots c =
    let net = c.args.net.now in
    let f = c.args.frame.now in
    let best = c.args.best.slots.items in
    let ps = c.in_ok-slots.slots.items in
    let fit = ap (does_fit f.room f.graph) (sym c.deref.ensures.value)
    ∙ ap (λ vs. does_fit f.room vs c.deref.result.now) (sym c.as_slice-2.ensures)
    ∙ sym c.fits.ensures ∙ c.if-not-fits.false in
    let last =
    c.latency-latency.ensures
    ∙ ap (λ ns. latency ns (slot_at c.deref-2.result.now) c.as_slice-4.result.now) c.as_slice-3.ensures
    ∙ ap (latency net.nodes (slot_at c.deref-2.result.now)) c.as_slice-4.ensures
    ∙ ap (λ qs. net_latency net (slot_at qs)) c.deref-2.ensures.value in
    left-is f net c.requires.valid best ps fit c.latency-latency.result c.in_ok-signals.signals c.in_ok-signals.bits c.args.best.bits last
    (c.in_ok-signals.ensures.signals ∙ ap (λ qs. min (signal_count net (slot_at qs)) 18446744073709551615) c.deref-3.ensures.value)
    (c.in_ok-signals.ensures.bits ∙ ap (λ qs. min (register_bits net (slot_at qs)) 18446744073709551615) c.deref-3.ensures.value)
    c.requires.best.bits c.is_better.result c.is_better.ensures c.if-is_better.false
    ∙ ap (fewer f net best) (c.in_ok-slots.ensures.slots ∙ ap (λ vs. timed vs c.args.cycles.now) c.as_slice.ensures)
