use Rattle.std.proofs.Common.{◌≡◌, map, sym, ap, ◌∙◌, subst}
use Rattle.opgen_design.specs.Run.{Cycle, at_ports, input_widths, is_in, is_out}
use Rattle.opgen_design.specs.Sound.{signal_widths}
use Rattle.opgen_streams.specs.Streams.{words_in}
use Rattle.opgen_lanes.specs.Banks.{stream_words, words_at}
use Rattle.opgen_lanes.specs.Steps.{IsStepIn}
use Rattle.opgen_lanes.proofs.lanes.Lanes.step.Goals as goal

pub returns-clause-steps : goal.returns-clause-steps
returns-clause-steps c = λ k h.
    let l = c.self.inside in
    let d = l.design in
    let ready = c.self.invariant in
    let inputs = c.args.inputs.now in
    let taken = c.take_inputs.new.bank in
    let ports = c.run_cycle.new.banks.ports in
    let next = c.run_cycle.new.next in
    let words = stream_words c.run_cycle.new.banks.signals ports k in
    let now : words_at l.banks.signals k ≡ words_in (signal_widths d) l.banks.signals.vectors.items k =
    ap (λ ws. words_in ws l.banks.signals.vectors.items k) ready.banks.signal_widths in
    let given : at_ports is_in d.ports (words_at taken k) ≡ words_in (input_widths d) inputs k =
    subst (λ qs. at_ports is_in qs (words_at taken k) ≡ words_in (at_ports is_in qs (map (λ p. p.width) qs)) inputs k)
    c.as_slice.ensures (c.take_inputs.ensures.inputs k h) in
    let after : words_at next k ≡ words_in (signal_widths d) c.swap.new.x.vectors.items k =
    ap (λ ws. words_in ws next.vectors.items k) c.run_cycle.ensures.next.signal_widths
    ∙ ap (λ b. words_in (signal_widths d) b.vectors.items k) (sym c.swap.ensures.x_after) in
    let one = subst (λ w. Cycle d w (at_ports is_in d.ports (words_at taken k)) words (words_at next k)) now (c.run_cycle.ensures.cycle k h) in
    let two = subst (λ w. Cycle d (words_in (signal_widths d) l.banks.signals.vectors.items k) w words (words_at next k)) given one in
    let whole : IsStepIn k d l.banks.signals.vectors.items inputs c.swap.new.x.vectors.items c.give_outputs.new.outputs = record {
      words = words;
      cycle = subst (Cycle d (words_in (signal_widths d) l.banks.signals.vectors.items k) (words_in (input_widths d) inputs k) words) after two;
      outputs_are = subst
          (λ qs. words_in (at_ports is_out qs (map (λ p. p.width) qs)) c.give_outputs.new.outputs k ≡ at_ports is_out qs (words_at ports k))
          c.as_slice-2.ensures (c.give_outputs.ensures.words k h);
    } in
    subst (λ r. IsStepIn k r.design r.held inputs c.swap.new.x.vectors.items c.give_outputs.new.outputs) c.self.view_is whole
