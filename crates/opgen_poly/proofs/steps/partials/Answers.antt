use Rattle.std.proofs.Common.{◌≡◌, ◌+◌, ◌-◌, suc, sym, ap, ◌∙◌, subst, arith}
use Rattle.opgen_kinds.specs.Horner.{degree}
use Rattle.opgen_poly.specs.Near.{IsPartial}
use Rattle.opgen_poly.specs.Recipe.{after, stepped}
use Rattle.opgen_poly.proofs.Runs.{after-partial}
use Rattle.opgen_poly.proofs.steps.partials.Goals as goal

pub step-requires-clause-partial : goal.step-requires-clause-partial
step-requires-clause-partial c =
    let p = c.args.poly.now in
    let k = c.places.k in
    let last : c.len-last.result - 1 ≡ degree p = omega (arith, c.len-last.ensures) in
    let place : degree p - k ≡ c.len-last.result - 1 - 1 - k + 1 = omega (arith, c.places-test.true, last) in
    subst (IsPartial p (c.len-last.result - 1 - 1 - k + 1)) (sym c.places.invariant)
    (subst (λ i. IsPartial p i (after p k)) place (after-partial p c.requires k (omega (arith, c.places-test.true, last))))

pub places-preserved : goal.places-preserved
places-preserved c =
    let p = c.args.poly.now in
    let k = c.places.k in
    let last : c.len-last.result - 1 ≡ degree p = omega (arith, c.len-last.ensures) in
    let place : c.len-last.result - 1 - 1 - k ≡ degree p - suc k = omega (arith, last) in
    let next : suc k ≡ k + 1 = omega arith in
    c.in_ok-partial-2.ensures.ok
    ∙ ap (stepped p (c.len-last.result - 1 - 1 - k)) c.places.invariant
    ∙ ap (λ i. stepped p i (after p k)) place
    ∙ ap (after p) next
