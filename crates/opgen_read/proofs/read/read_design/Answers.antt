use Rattle.std.proofs.Common.{Err, sym, subst, arith}
use Rattle.std.proofs.lemmas.Result.{err_from_is_err_and}
use Rattle.opgen_read.specs.Answer.{IsWithinLimits}
use Rattle.opgen_read.specs.Outcome.{IsOutcome, HasFew}
use Rattle.opgen_read.specs.Seen.{seen}
use Rattle.opgen_read.proofs.Judging.{judged_fault}
use Rattle.opgen_read.proofs.read.read_design.Goals as goal

pub returns-in_err-check_design-clause-fault : goal.returns-in_err-check_design-clause-fault
returns-in_err-check_design-clause-fault c =
    let p = err_from_is_err_and c.from_residual-in_err-check_design.result c.from_residual-in_err-check_design.ensures.1 in
    let fault = c.in_err-check_design.field-0.0 in
    let r = seen c.in_ok-draft.draft in
    let within : IsWithinLimits c.design_of-design.result = c.is_within_limits.ensures.0 c.if-not-is_within_limits.false in
    let outcome : IsOutcome r.agrees c.design_of-design.result (Err fault) = c.in_err-check_design.ensures in
    rw (p.1, p.2) (judged_fault c.args.bytes.now r fault c.in_ok-draft.ensures.ok
    (subst IsWithinLimits c.design_of-design.ensures within)
    (subst (λ d. IsOutcome r.agrees d (Err fault)) c.design_of-design.ensures outcome))

pub returns-clause-numbers : goal.returns-clause-numbers
returns-clause-numbers c =
    let within : IsWithinLimits c.design_of-design.result = c.is_within_limits.ensures.0 c.if-not-is_within_limits.false in
    let few : HasFew c.design_of-design.result = subst HasFew (sym c.design_of-design.ensures) c.in_ok-draft.ensures.few in
    omega (arith, within.signals, within.ports, few)
