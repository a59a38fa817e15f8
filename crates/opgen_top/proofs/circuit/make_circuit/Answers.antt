use Rattle.opgen_top.proofs.Outcomes.{unplanned_listed, unplanned_refused, planned_circuit}
use Rattle.opgen_top.proofs.PreparingSpecs.{plan_refused, target_refused}
use Rattle.opgen_top.proofs.Refusing.{refusal-map, refusal_passed}
use Rattle.opgen_top.proofs.circuit.make_circuit.Goals as goal

pub returns-in_err-target-clause-refused : goal.returns-in_err-target-clause-refused
returns-in_err-target-clause-refused g c =
    let refusal = c.in_err-target.field-0.0 in
    refusal_passed _ refusal _ c.from_residual.ensures.1
    (target_refused _ c.args.spec.now refusal c.in_err-target.ensures.refused)

pub returns-in-Ok-clause-circuit : goal.returns-in-Ok-clause-circuit
returns-in-Ok-clause-circuit g c = record {
  table = _;
  of_target = c.in_ok-target.ensures.table;
  of_table = planned_circuit c.args.spec.now c.args.enable _ c.in_ok-built.built.net c.in_ok-built.ensures.net c.in-Ok.planned _
      c.in_ok-built.ensures.adders c.in-Ok.ensures;
}

pub returns-clause-refused : goal.returns-clause-refused
returns-clause-refused g c =
    plan_refused _ c.args.spec.now _ c.in_ok-target.ensures.table c.refuse_plan.result
    (refusal-map c.refuse_plan.result _ _
    (λ a told. unplanned_refused c.args.spec.now c.args.enable _ c.in_ok-built.built.net c.in_ok-built.ensures.net c.in-Err.fault a
    c.in-Err.ensures told) c.refuse_plan.ensures)

pub returns-clause-listed : goal.returns-clause-listed
returns-clause-listed g c = refusal-map c.refuse_plan.result _ _ (unplanned_listed c.in-Err.fault) c.refuse_plan.ensures
