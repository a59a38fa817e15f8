use Rattle.std.proofs.Common.{◌≡◌, ◌≤◌, Ok, sym, subst}
use Rattle.opgen_net.specs.declared.cell.Class.{Class}
use Rattle.opgen_pipe.specs.declared.placing.Placing.TheVariants.{Few}
use Rattle.opgen_pipe.specs.Cells.{design_cells}
use Rattle.opgen_pipe.specs.Placed.{register_bits}
use Rattle.opgen_pipe.specs.Planned.{IsCause, IsOutcome, slots_by, slots_of}
use Rattle.opgen_pipe.specs.Timed.{IsInTime, IsLeastLatency}
use Rattle.opgen_schedule.specs.Stage.{slot_at}
use Rattle.opgen_target.specs.Ledger.{width_sum}
use Rattle.opgen_timing.specs.Nets.{net_for}
use Rattle.opgen_timing.specs.Outcomes.{IsCauseOfCut}
use Rattle.opgen_timing.proofs.Made.{same-named}
use Rattle.opgen_timing.proofs.planning.cut_and_plan.Goals as goal

pub plan-requires-clause-named : goal.plan-requires-clause-named
plan-requires-clause-named g c = same-named c.args.name.now c.args.net.now c.in-Ok.made c.in-Ok.ensures.same c.requires.named

pub returns-in-Ok-plan-clause-outcome : goal.returns-in-Ok-plan-clause-outcome
returns-in-Ok-plan-clause-outcome g c =
    let table = (goal.Target-dyn g (c.args.target.now.vtable, c.args.target.now.value)).delays c.args.target.now.value in
    subst (λ n. IsOutcome c.args.name.now c.args.enable n Few table c.args.period (Ok c.in-Ok-plan.planned)) c.in-Ok.ensures.net
    c.in-Ok-plan.ensures.outcome

pub returns-in-Ok-plan-clause-fits : goal.returns-in-Ok-plan-clause-fits
returns-in-Ok-plan-clause-fits g c =
    let table = (goal.Target-dyn g (c.args.target.now.vtable, c.args.target.now.value)).delays c.args.target.now.value in
    let period = c.args.period in
    subst (λ n. IsInTime c.args.name.now c.args.enable n table period (slot_at (slots_by Few table period n)) c.in-Ok-plan.planned)
    c.in-Ok.ensures.net c.in-Ok-plan.ensures.fits

pub returns-in-Ok-plan-clause-least : goal.returns-in-Ok-plan-clause-least
returns-in-Ok-plan-clause-least g c =
    let table = (goal.Target-dyn g (c.args.target.now.vtable, c.args.target.now.value)).delays c.args.target.now.value in
    subst (λ n. IsLeastLatency table c.args.period n c.in-Ok-plan.planned.latency) c.in-Ok.ensures.net c.in-Ok-plan.ensures.least

pub returns-in-Ok-plan-clause-few : goal.returns-in-Ok-plan-clause-few
returns-in-Ok-plan-clause-few g c =
    let table = (goal.Target-dyn g (c.args.target.now.vtable, c.args.target.now.value)).delays c.args.target.now.value in
    let period = c.args.period in
    subst (λ n. register_bits n (slot_at (slots_by Few table period n)) ≤ register_bits n (slot_at (slots_of table period n)))
    c.in-Ok.ensures.net c.in-Ok-plan.ensures.few

pub returns-in-Ok-plan-clause-ledger : goal.returns-in-Ok-plan-clause-ledger
returns-in-Ok-plan-clause-ledger g c = λ class.
    let table = (goal.Target-dyn g (c.args.target.now.vtable, c.args.target.now.value)).delays c.args.target.now.value in
    let after = (goal.Target-dyn g (c.plan.new.target.vtable, c.plan.new.target.value)).ledger c.plan.new.target.value in
    subst (λ n. after class ≡ width_sum (design_cells n (slot_at (slots_by Few table c.args.period n))) class) c.in-Ok.ensures.net
    (c.in-Ok-plan.ensures.ledger class)

pub returns-clause-outcome : goal.returns-clause-outcome
returns-clause-outcome g c =
    let table = (goal.Target-dyn g (c.args.target.now.vtable, c.args.target.now.value)).delays c.args.target.now.value in
    let net = c.args.net.now in
    let period = c.args.period in
    let cause = c.in-Err.cause in
    let of_made = subst (λ n. IsCause n Few table period cause) c.in-Ok.ensures.net c.in-Err.ensures.outcome in
    subst (λ t. IsCauseOfCut net t period c.fault_of.result) c.in-Err.ensures.delays
    (c.fault_of.ensures period (subst (λ t. IsCause (net_for t period net) Few t period cause) (sym c.in-Err.ensures.delays) of_made))
