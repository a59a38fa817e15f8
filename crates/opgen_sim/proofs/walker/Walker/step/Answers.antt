use Rattle.std.proofs.Common.{◌≡◌, length, map, sym, ap, ◌∙◌, subst, arith}
use Rattle.std.specs.Vec.{with_items}
use Rattle.std.proofs.lemmas.List.{length-map, with_items_is}
use Rattle.opgen_num.specs.Words.{nat, words_of}
use Rattle.opgen_design.specs.Run.{Cycle, Words, at_ports, is_in, is_out, input_widths}
use Rattle.opgen_design.specs.Sound.{port_widths}
use Rattle.opgen_runs.proofs.Starts.{at_ports-length}
use Rattle.opgen_sim.proofs.walker.Walker.step.Goals as goal

pub give_outputs-requires-clause-room : goal.give_outputs-requires-clause-room
give_outputs-requires-clause-room c =
    let d = c.args.design.now in
    let old = c.args.self.now.ports in
    let new = c.run_cycle.new.ports in
    let n : length new ≡ length (port_widths d) = sym (length-map new length) ∙ ap length c.run_cycle.ensures.cycle.port_widths in
    let l : length new ≡ old.len = omega (arith, n, ap length c.requires.walker.widths.ports, length-map old.items length, old.ok.0) in
    let e : c.deref-3.result.now ≡ new = c.deref-3.ensures.value ∙ with_items_is (with_items old c.take_inputs.new.words) new l in
    c.requires.outputs
    ∙ sym (at_ports-length is_out d.ports new (port_widths d) n)
    ∙ ap (λ ws. length (at_ports is_out d.ports ws)) (sym e)
    ∙ ap (λ qs. length (at_ports is_out qs c.deref-3.result.now)) (sym c.as_slice-2.ensures)

pub returns-clause-step : goal.returns-clause-step
returns-clause-step c =
    let d = c.args.design.now in
    let s = c.args.self.now in
    let inputs = c.args.inputs.now in
    let new = c.run_cycle.new.ports in
    let taken = c.take_inputs.new.words in
    let next = c.run_cycle.new.next in
    let v : Words = record { signals = c.run_cycle.new.signals; ports = new } in
    let n : length new ≡ length (port_widths d) = sym (length-map new length) ∙ ap length c.run_cycle.ensures.cycle.port_widths in
    let l : length new ≡ s.ports.len = omega
    (arith, n, ap length c.requires.walker.widths.ports, length-map s.ports.items length, s.ports.ok.0) in
    let e : c.deref-3.result.now ≡ new = c.deref-3.ensures.value ∙ with_items_is (with_items s.ports taken) new l in
    let t : length taken ≡ s.ports.len = omega (arith, c.take_inputs.auto.words, ap length c.deref_mut.ensures.value, s.ports.ok.0) in
    let given : at_ports is_in d.ports taken ≡ words_of (input_widths d) inputs = subst
    (λ qs. at_ports is_in qs taken ≡ words_of (at_ports is_in qs (map (λ p. p.width) qs)) inputs) c.as_slice.ensures
    c.take_inputs.ensures.inputs in
    let g : at_ports is_in d.ports c.deref_mut-3.result.now ≡ words_of (input_widths d) inputs = ap (at_ports is_in d.ports)
    (c.deref_mut-3.ensures.value ∙ with_items_is s.ports taken t) ∙ given in
    let m : length next ≡ s.next.len = omega (
      arith,
      length-map next length,
      ap length c.run_cycle.ensures.widths,
      ap length c.requires.walker.room,
      length-map s.next.items length,
      s.next.ok.0,
    ) in
    let x : next ≡ c.swap.new.x.items = sym (ap (λ y. y.items) c.swap.ensures.x_after ∙ with_items_is s.next next m) in
    let one = subst (λ w. Cycle d w (at_ports is_in d.ports c.deref_mut-3.result.now) v next) c.deref_mut-2.ensures.value
    c.run_cycle.ensures.cycle in
    let two = subst (λ w. Cycle d s.words.items w v next) g one in
    record {
      words = v;
      cycle = subst (λ w. Cycle d s.words.items (words_of (input_widths d) inputs) v w) x two;
      outputs_are = c.give_outputs.ensures ∙ ap (λ ws. map nat (at_ports is_out c.as_slice-2.result.now ws)) e
          ∙ ap (λ qs. map nat (at_ports is_out qs new)) c.as_slice-2.ensures;
    }
