use Rattle.std.proofs.Common.{IfNone, subst, sym}
use Rattle.opgen_graph.specs.Adders.{Comb}
use Rattle.opgen_graph.proofs.FirstSteps.{IsNever, IsOnly, first_a, first_b, first_c, first_d, first_e, no_step}
use Rattle.opgen_graph.proofs.forms.combine.Goals as goal

pub returns-in-Some-clause-first : goal.returns-in-Some-clause-first
returns-in-Some-clause-first c =
    let i = c.in-Some.shift in
    let a = c.args in
    first_a a.u a.v a.f c.requires.0.0 i (subst (λ n. IsOnly a.u n i) c.saturating_sub.ensures c.in-Some.ensures.some)

pub returns-in-Some-shift_to-clause-first : goal.returns-in-Some-shift_to-clause-first
returns-in-Some-shift_to-clause-first c =
    let a = c.args in
    first_b a.u a.v a.f (subst (IsNever a.u) c.saturating_sub.ensures c.in_default.ensures.none) c.in-Some-shift_to.shift
    c.in-Some-shift_to.ensures.some

pub returns-in-Some-shift_to-2-clause-first : goal.returns-in-Some-shift_to-2-clause-first
returns-in-Some-shift_to-2-clause-first c =
    let i = c.in-Some-shift_to-2.shift in
    let a = c.args in
    first_c a.u a.v a.f c.requires.0.0 (subst (IsNever a.u) c.saturating_sub.ensures c.in_default.ensures.none)
    c.in_default-shift_to.ensures.none i
    (subst (λ n. IsOnly a.u n i) c.saturating_sub-2.ensures c.in-Some-shift_to-2.ensures.some)

pub returns-in-Some-shift_to-3-clause-first : goal.returns-in-Some-shift_to-3-clause-first
returns-in-Some-shift_to-3-clause-first c =
    let a = c.args in
    first_d a.u a.v a.f (subst (IsNever a.u) c.saturating_sub.ensures c.in_default.ensures.none) c.in_default-shift_to.ensures.none
    (subst (IsNever a.u) c.saturating_sub-2.ensures c.in_default-shift_to-2.ensures.none) c.in-Some-shift_to-3.shift
    c.in-Some-shift_to-3.ensures.some

pub returns-clause-first : goal.returns-clause-first
returns-clause-first c =
    let i = c.in_ok-shift.shift in
    let a = c.args in
    first_e a.u a.v a.f (subst (IsNever a.u) c.saturating_sub.ensures c.in_default.ensures.none) c.in_default-shift_to.ensures.none
    (subst (IsNever a.u) c.saturating_sub-2.ensures c.in_default-shift_to-2.ensures.none) c.in_default-shift_to-3.ensures.none i
    (subst (λ n. IsOnly a.f n i) c.abs_diff.ensures c.in_ok-shift.ensures.some)

pub returns-in_err-shift-clause-none : goal.returns-in_err-shift-clause-none
returns-in_err-shift-clause-none c =
    let a = c.args in
    subst (λ o. IfNone o (Comb a.u a.v a.f → ⊥)) (sym c.from_residual.ensures)
    (no_step a.u a.v a.f (subst (IsNever a.u) c.saturating_sub.ensures c.in_default.ensures.none) c.in_default-shift_to.ensures.none
    (subst (IsNever a.u) c.saturating_sub-2.ensures c.in_default-shift_to-2.ensures.none) c.in_default-shift_to-3.ensures.none
    (subst (IsNever a.f) c.abs_diff.ensures c.in_err-shift.ensures.none))
