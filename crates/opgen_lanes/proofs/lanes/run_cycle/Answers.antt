use Rattle.std.proofs.Common.{sym, ap, ◌∙◌, subst}
use Rattle.std.proofs.lemmas.Option.{slice_get_within}
use Rattle.opgen_design.specs.Run.{Cycle, at_ports, is_in}
use Rattle.opgen_runs.specs.Evaluate.{settle, hand_all_on}
use Rattle.opgen_runs.proofs.Cycles.{is-cycle}
use Rattle.opgen_runs.proofs.Equations.{placed}
use Rattle.opgen_lanes.specs.Banks.{stream_words, words_at}
use Rattle.opgen_lanes.proofs.DriverWords.{have-widths}
use Rattle.opgen_lanes.proofs.lanes.run_cycle.Goals as goal

pub settle-requires-clause-places : goal.settle-requires-clause-places
settle-requires-clause-places c = λ p i e.
    let k = placed c.args.design.now c.requires.sound c.args.order.now c.requires.order p i e in
    slice_get_within c.args.design.now.drivers i k.0 k.1

pub returns-clause-cycle : goal.returns-clause-cycle
returns-clause-cycle c = λ k h.
    let d = c.args.design.now in
    let v = stream_words c.args.banks.now.signals c.args.banks.now.ports k in
    let next = words_at c.args.next.now k in
    let after = settle d.drivers c.args.order.now v in
    let e = c.settle.ensures.words k h in
    let n = c.hand_all_on.ensures.words k h ∙ ap (λ w. hand_all_on d.enable d.drivers w next) e in
    let whole = is-cycle d c.requires.sound c.args.order.now c.requires.order v
    (have-widths d c.args.banks.now.signals c.args.banks.now.ports c.requires.banks k) next
    (have-widths d c.args.next.now c.args.banks.now.ports c.requires.next k).signals in
    subst (λ w. Cycle d v.signals (at_ports is_in d.ports v.ports) w (words_at c.hand_all_on.new.next k)) (sym e)
    (subst (Cycle d v.signals (at_ports is_in d.ports v.ports) after) (sym n) whole)
