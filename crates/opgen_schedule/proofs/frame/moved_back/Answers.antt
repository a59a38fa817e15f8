use Rattle.std.proofs.Common.{◌≡◌, ap, ◌∙◌, subst}
use Rattle.std.specs.Prelude.{IfOk}
use Rattle.opgen_schedule.specs.declared.costs.Cost.TheVariants.{Nothing, Shared}
use Rattle.opgen_schedule.specs.Moves.{costs_of, earlier, later, moved_later}
use Rattle.opgen_schedule.proofs.frame.moved_back.Goals as goal

pub returns-clause-cycles : goal.returns-clause-cycles
returns-clause-cycles c =
    let f = c.args.frame.now in
    let nothing = c.deref.ensures.value ∙ c.in_ok-nothing.ensures.costs ∙ ap (costs_of Nothing) c.as_slice-graph.ensures in
    let shared = c.deref-2.ensures.value ∙ c.in_ok-shared.ensures.costs ∙ ap (costs_of Shared) c.as_slice-graph.ensures in
    let latest = c.deref-3.ensures.value ∙ c.in_ok-latest.ensures.cycles ∙ ap (λ k. later f k c.args.cycles.now) nothing in
    let back = c.deref-4.ensures.value ∙ c.in_ok-back.ensures.cycles ∙ ap (λ k. earlier f k c.deref-3.result.now) shared
    ∙ ap (earlier f (costs_of Shared f.graph)) latest in
    subst (λ b. IfOk c.moved_later.result (λ v. v.items ≡ moved_later f b)) back c.moved_later.ensures.cycles
