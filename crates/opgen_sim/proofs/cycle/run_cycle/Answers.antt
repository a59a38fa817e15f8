use Rattle.std.proofs.Common.{sym, subst, ap, ◌∙◌}
use Rattle.std.proofs.lemmas.Option.{slice_get_within}
use Rattle.opgen_design.specs.Run.{Cycle, Words, at_ports, is_in}
use Rattle.opgen_runs.specs.Evaluate.{HaveWidths, settle, hand_all_on}
use Rattle.opgen_runs.proofs.Cycles.{is-cycle}
use Rattle.opgen_runs.proofs.Equations.{placed}
use Rattle.opgen_runs.proofs.Widths.{settle-widths, words-eq}
use Rattle.opgen_sim.proofs.cycle.run_cycle.Goals as goal

pub settle-requires-clause-places : goal.settle-requires-clause-places
settle-requires-clause-places c = λ p i e.
    let k = placed c.args.design.now c.requires.sound c.args.order.now c.requires.order p i e in
    slice_get_within c.args.design.now.drivers i k.0 k.1

pub hand_all_on-requires-clause-widths : goal.hand_all_on-requires-clause-widths
hand_all_on-requires-clause-widths c =
    let d = c.args.design.now in
    let v : Words = record { signals = c.args.signals.now; ports = c.args.ports.now } in
    let e = words-eq c.settle.new.signals c.settle.new.ports (settle d.drivers c.args.order.now v) c.settle.ensures.signals
    c.settle.ensures.ports in
    subst (HaveWidths d) (sym e) (settle-widths d c.requires.sound c.args.order.now v c.requires.widths)

pub returns-clause-cycle : goal.returns-clause-cycle
returns-clause-cycle c =
    let d = c.args.design.now in
    let v : Words = record { signals = c.args.signals.now; ports = c.args.ports.now } in
    let after = settle d.drivers c.args.order.now v in
    let e = words-eq c.settle.new.signals c.settle.new.ports after c.settle.ensures.signals c.settle.ensures.ports in
    let n = c.hand_all_on.ensures.words ∙ ap (λ w. hand_all_on d.enable d.drivers w c.args.next.now) e in
    let whole = is-cycle d c.requires.sound c.args.order.now c.requires.order v c.requires.widths c.args.next.now c.requires.room in
    subst (λ w. Cycle d c.args.signals.now (at_ports is_in d.ports c.args.ports.now) w c.hand_all_on.new.next) (sym e)
    (subst (Cycle d c.args.signals.now (at_ports is_in d.ports c.args.ports.now) after) (sym n) whole)
