use Rattle.std.proofs.Common.{◌≤◌, length, sym, ap, ◌∙◌, subst, arith}
use Rattle.std.specs.Prelude.{All}
use Rattle.opgen_schedule.specs.declared.slot.Slot.{Slot}
use Rattle.opgen_schedule.specs.Schedule.{greatest_time, latency}
use Rattle.opgen_schedule.specs.Stage.{slot_at}
use Rattle.opgen_pipe.specs.Copies.{net_latency, signal_count}
use Rattle.opgen_pipe.specs.Standings.{standings}
use Rattle.opgen_pipe.proofs.Fitting.{count-is, early_at, made-for, slots-few}
use Rattle.opgen_pipe.proofs.Outcomes.{slots-are, need-is}
use Rattle.opgen_pipe.proofs.There.{outputs_there}
use Rattle.opgen_pipe.proofs.layout.lay_out_for.Goals as goal

pub latency-latency-requires-clause-slots : goal.latency-latency-requires-clause-slots
latency-latency-requires-clause-slots c =
    ap length c.deref-2.ensures.value ∙ c.in_ok-slots.ensures.one_each ∙ sym (ap length c.as_slice-nodes.ensures)

pub latency-latency-requires-clause-there : goal.latency-latency-requires-clause-there
latency-latency-requires-clause-there c =
    outputs_there c.args.net.now c.requires.valid c.as_slice-nodes.result.now c.as_slice-nodes.ensures c.as_slice.result.now
    c.as_slice.ensures

pub copies-requires-clause-slots : goal.copies-requires-clause-slots
copies-requires-clause-slots c =
    ap length c.deref-3.ensures.value ∙ c.in_ok-slots.ensures.one_each

pub standings-requires-clause-few : goal.standings-requires-clause-few
standings-requires-clause-few c =
    let net = c.args.net.now in
    let same = c.deref-3.ensures.value ∙ sym c.deref-5.ensures.value in
    let count = count-is net c.deref-3.result.now c.in_ok-copies.copies.items c.deref-4.result.now c.in_ok-copies.ensures
    c.deref-4.ensures.value in
    omega (
      arith,
      c.signal_count.ensures,
      c.if-signal_count-gt-MAX_SIGNALS.false,
      count,
      ap (λ ps. signal_count net (slot_at ps)) same,
    )

pub standings-requires-clause-slots : goal.standings-requires-clause-slots
standings-requires-clause-slots c =
    let net = c.args.net.now in
    let early = c.in_ok-slots.ensures.early in
    slots-few net c.deref-5.result.now
    (ap length c.deref-5.ensures.value ∙ c.in_ok-slots.ensures.one_each)
    (subst (All (λ (p : Slot). p.cycle ≤ length net.nodes)) (sym c.deref-5.ensures.value) early) (standings-requires-clause-few c)

pub returns-clause-layout : goal.returns-clause-layout
returns-clause-layout c =
    let net = c.args.net.now in
    let slots = c.deref-5.result.now in
    let early = c.in_ok-slots.ensures.early in
    let long = ap length c.deref-5.ensures.value ∙ c.in_ok-slots.ensures.one_each in
    let e = made-for net slots long c.in_ok-standings.standings.items c.in_ok-standings.ensures in
    let last = c.deref-2.ensures.value ∙ sym c.deref-5.ensures.value in
    record {
      standings = c.in_ok-standings.ensures ∙ ap (standings net) (sym e);
      early = λ i.
          omega (
            arith,
            ap (λ s. (s i).cycle) e,
            early_at (length net.nodes) slots (subst (All (λ (p : Slot). p.cycle ≤ length net.nodes)) (sym c.deref-5.ensures.value) early) i,
          );
      latency =
          c.latency-latency.ensures
          ∙ ap (λ ns. latency ns (slot_at c.deref-2.result.now) c.as_slice.result.now) c.as_slice-nodes.ensures
          ∙ ap (latency net.nodes (slot_at c.deref-2.result.now)) c.as_slice.ensures
          ∙ ap (net_latency net) (ap slot_at last ∙ sym e);
    }

pub returns-then-need-from-clause-outcome : goal.returns-then-need-from-clause-outcome
returns-then-need-from-clause-outcome c = λ table d b.
    let n = need-is c.args.net.now table c.args.timing.period c.args.delays.now c.args.setup d b in (
      omega (arith, n, c.greatest.ensures, c.from.ensures, c.from-2.ensures),
      omega (arith, n, c.greatest.ensures, c.from.ensures, c.from-2.ensures, c.from-3.ensures, c.if-need-from.true),
    )

pub returns-then-signal_count-gt-MAX_SIGNALS-clause-outcome : goal.returns-then-signal_count-gt-MAX_SIGNALS-clause-outcome
returns-then-signal_count-gt-MAX_SIGNALS-clause-outcome c = λ table d b.
    let net = c.args.net.now in
    let n = need-is net table c.args.timing.period c.args.delays.now c.args.setup d b in
    let e = slots-are net table c.args.timing.period c.args.delays.now c.args.setup d b c.args.timing.placing
    c.deref-3.result.now (c.deref-3.ensures.value ∙ c.in_ok-slots.ensures.slots) in
    let count = count-is net c.deref-3.result.now c.in_ok-copies.copies.items c.deref-4.result.now c.in_ok-copies.ensures
    c.deref-4.ensures.value in (
      omega (arith, n, c.greatest.ensures, c.from.ensures, c.from-2.ensures, c.from-3.ensures, c.if-need-from.false),
      omega (
        arith,
        c.signal_count.ensures,
        c.if-signal_count-gt-MAX_SIGNALS.true,
        count,
        ap (λ ps. signal_count net (slot_at ps)) e,
      ),
    )

pub returns-clause-outcome : goal.returns-clause-outcome
returns-clause-outcome c = λ table d b.
    let net = c.args.net.now in
    let n = need-is net table c.args.timing.period c.args.delays.now c.args.setup d b in
    let made = slots-are net table c.args.timing.period c.args.delays.now c.args.setup d b c.args.timing.placing in
    let longest = ap greatest_time (made c.deref.result.now (c.deref.ensures.value ∙ c.in_ok-slots.ensures.slots)) in
    let long = ap length c.deref-5.ensures.value ∙ c.in_ok-slots.ensures.one_each in
    let e = made-for net c.deref-5.result.now long c.in_ok-standings.standings.items c.in_ok-standings.ensures in
    let same = ap slot_at (c.deref-3.ensures.value ∙ sym c.deref-5.ensures.value) in
    let count = count-is net c.deref-3.result.now c.in_ok-copies.copies.items c.deref-4.result.now c.in_ok-copies.ensures
    c.deref-4.ensures.value in (
      omega (arith, n, c.greatest.ensures, c.from.ensures, c.from-2.ensures, c.from-3.ensures, c.if-need-from.false),
      omega (
        arith,
        c.signal_count.ensures,
        c.if-signal_count-gt-MAX_SIGNALS.false,
        count,
        ap (signal_count net) (same ∙ sym e),
      ),
      record {
        schedule = e ∙ ap slot_at (made c.deref-5.result.now (c.deref-5.ensures.value ∙ c.in_ok-slots.ensures.slots));
        slack = omega (arith, c.from-slack.ensures, c.greatest_time.ensures, longest, b);
      },
    )
