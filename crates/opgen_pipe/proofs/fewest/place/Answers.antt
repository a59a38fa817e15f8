use Rattle.std.proofs.Common.{◌≡◌, ◌-◌, length, sym, ap, ◌∙◌, subst}
use Rattle.std.specs.Prelude.{IfOk}
use Rattle.opgen_schedule.specs.Schedule.{latency}
use Rattle.opgen_schedule.specs.Stage.{slot_at, stage}
use Rattle.opgen_schedule.proofs.Equation.{length-stage}
use Rattle.opgen_pipe.specs.Copies.{net_latency}
use Rattle.opgen_pipe.specs.Placed.{fewest, frame_of, slots_placed}
use Rattle.opgen_pipe.proofs.There.{outputs_there}
use Rattle.opgen_pipe.proofs.fewest.place.Goals as goal

pub latency-latency-requires-clause-slots : goal.latency-latency-requires-clause-slots
latency-latency-requires-clause-slots c =
    ap length (c.deref.ensures.value ∙ c.in_ok-first.ensures.stage)
    ∙ length-stage c.args.delays.now c.args.setup c.args.timing.period c.as_slice-nodes.result.now

pub latency-latency-requires-clause-there : goal.latency-latency-requires-clause-there
latency-latency-requires-clause-there c =
    outputs_there c.args.net.now c.requires.valid c.as_slice-nodes.result.now c.as_slice-nodes.ensures c.as_slice.result.now
    c.as_slice.ensures

pub fewest-requires-clause-first : goal.fewest-requires-clause-first
fewest-requires-clause-first c =
    ap length c.in_ok-first.ensures.stage
    ∙ length-stage c.args.delays.now c.args.setup c.args.timing.period c.as_slice-nodes.result.now ∙ ap length c.as_slice-nodes.ensures

pub returns-in-Earliest-clause-one_each : goal.returns-in-Earliest-clause-one_each
returns-in-Earliest-clause-one_each c =
    ap length c.in_ok-first.ensures.stage
    ∙ length-stage c.args.delays.now c.args.setup c.args.timing.period c.as_slice-nodes.result.now ∙ ap length c.as_slice-nodes.ensures

pub returns-in_ok-frame-in-Few-clause-slots : goal.returns-in_ok-frame-in-Few-clause-slots
returns-in_ok-frame-in-Few-clause-slots c =
    let net = c.args.net.now in
    let delays = c.args.delays.now in
    let setup = c.args.setup in
    let period = c.args.timing.period in
    let first = stage delays setup period net.nodes in
    let made = c.in_ok-first.ensures.stage ∙ ap (stage delays setup period) c.as_slice-nodes.ensures in
    let last =
    c.latency-latency.ensures
    ∙ ap (λ ns. latency ns (slot_at c.deref.result.now) c.as_slice.result.now) c.as_slice-nodes.ensures
    ∙ ap (latency net.nodes (slot_at c.deref.result.now)) c.as_slice.ensures
    ∙ ap (λ ps. net_latency net (slot_at ps)) (c.deref.ensures.value ∙ made) in
    let frame = c.in_ok-frame-in-Few.ensures.frame ∙ ap (λ l. frame_of delays (period - setup) l net) last in
    let all = ap (λ f. fewest f net c.in_ok-first.first.items) frame
    ∙ ap (fewest (frame_of delays (period - setup) (net_latency net (slot_at first)) net) net) made
    ∙ ap (λ p. slots_placed p delays setup period net) (sym c.in-Few.is) in
    subst (λ ps. IfOk c.fewest.result (λ v. v.items ≡ ps)) all c.fewest.ensures.slots
