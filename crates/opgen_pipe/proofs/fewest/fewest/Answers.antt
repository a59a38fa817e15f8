use Rattle.std.proofs.Common.{ap, ◌∙◌}
use Rattle.opgen_schedule.specs.Moves.{cycles_of, moved_back, moved_later, timed}
use Rattle.opgen_pipe.specs.Placed.{fewer}
use Rattle.opgen_pipe.proofs.fewest.fewest.Goals as goal

pub returns-clause-slots : goal.returns-clause-slots
returns-clause-slots c =
    let net = c.args.net.now in
    let f = c.args.frame.now in
    let first = c.args.first.items in
    let cycles = c.in_ok-cycles.ensures ∙ ap cycles_of c.deref-2.ensures.value in
    let later = c.deref-5.ensures.value ∙ c.in_ok-later.ensures.cycles ∙ ap (moved_later f) (c.deref-3.ensures.value ∙ cycles) in
    let back = c.deref-6.ensures.value ∙ c.in_ok-back.ensures.cycles ∙ ap (moved_back f) (c.deref-4.ensures.value ∙ cycles) in
    let one = c.in_ok-best.ensures.slots ∙ ap (λ k. fewer f net first (timed f.graph k)) later in
    c.in_ok-best-2.ensures.slots
    ∙ ap (λ k. fewer f net c.in_ok-best.best.slots.items (timed f.graph k)) back
    ∙ ap (λ ps. fewer f net ps (timed f.graph (moved_back f (cycles_of first)))) one
