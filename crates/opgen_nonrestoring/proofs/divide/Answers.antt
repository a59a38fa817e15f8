use Rattle.std.proofs.Common.{◌≡◌, ℕ, suc, ◌+◌, ◌<◌, ◌≤◌, Bool, List, length, sym, ap, ◌∙◌, subst, arith}
use Rattle.std.specs.Prelude.{All, slice_index_or}
use Rattle.opgen_net.specs.declared.net.Net.{Net}
use Rattle.opgen_net.specs.declared.word_bits.WordBit.{WordBit}
use Rattle.opgen_net.specs.declared.word_bits.WordBit.TheVariants.{Zero}
use Rattle.opgen_net.specs.Grown.{HasGrown}
use Rattle.opgen_net.specs.Valid.{widths, IsValid}
use Rattle.opgen_net.specs.WordRule.{IsThere}
use Rattle.opgen_digits.specs.Digit.{Known}
use Rattle.opgen_digits.specs.Results.{AreResults}
use Rattle.opgen_nonrestoring.specs.declared.Divisor.{Divisor}
use Rattle.opgen_nonrestoring.specs.Recipe.{Division, stepped, after, finished, divided}
use Rattle.opgen_nonrestoring.specs.Steps.{IsDivisor, HoldsAfterEachStep, HasQuotient}
use Rattle.opgen_nonrestoring.proofs.Divided.{done-later, done-results, steps-hold, has_quotient}
use Rattle.opgen_nonrestoring.proofs.Stands.{Stands, stands, now-there}
use Rattle.opgen_nonrestoring.proofs.Steps.{kept-width}
use Rattle.opgen_nonrestoring.proofs.divide.Goals as goal

-- after some steps
module _ (numerator : List WordBit) (v : Divisor) (net : Net) (valid : IsValid net) (is : IsDivisor net v)
    (there : All (IsThere (widths net.nodes)) numerator) (k : ℕ) (within : k ≤ length numerator) (d : Division)
    (so_far : after numerator v net k ≡ d) where
  stand : Stands numerator v net valid is there k d
  stand = subst (Stands numerator v net valid is there k) so_far (stands numerator v net valid is there k within)

  divisor : IsDivisor d.net v
  divisor = record { some = is.some; few = is.few; wide = kept-width net d.net stand.later v.node v.width is.some is.wide }

  bit : k < length numerator → IsThere (widths d.net.nodes) (slice_index_or numerator k Zero)
  bit before = now-there numerator v net valid is there k d before stand

pub step-requires-clause-net : goal.step-requires-clause-net
step-requires-clause-net c =
    let r = c.requires in
    (stand c.args.numerator.now c.args.divisor c.args.net.now r.net r.divisor r.numerator c.steps.k (omega (arith, c.steps-test.true)) _ c.steps.invariant).later.valid

pub step-requires-clause-divisor : goal.step-requires-clause-divisor
step-requires-clause-divisor c =
    let r = c.requires in
    divisor c.args.numerator.now c.args.divisor c.args.net.now r.net r.divisor r.numerator c.steps.k (omega (arith, c.steps-test.true)) _ c.steps.invariant

pub step-requires-clause-ready : goal.step-requires-clause-ready
step-requires-clause-ready c =
    let r = c.requires in
    (stand c.args.numerator.now c.args.divisor c.args.net.now r.net r.divisor r.numerator c.steps.k (omega (arith, c.steps-test.true)) _ c.steps.invariant).ready

pub step-requires-clause-bit : goal.step-requires-clause-bit
step-requires-clause-bit c =
    let r = c.requires in
    bit c.args.numerator.now c.args.divisor c.args.net.now r.net r.divisor r.numerator c.steps.k (omega (arith, c.steps-test.true)) _ c.steps.invariant c.steps-test.true

pub steps-preserved : goal.steps-preserved
steps-preserved c =
    let bits = c.args.numerator.now in
    let v = c.args.divisor in
    let e : c.steps.k + 1 ≡ suc c.steps.k = omega arith in
    ap (after bits v c.args.net.now) e
    ∙ ap (λ (d : Division). stepped v d (slice_index_or bits c.steps.k Zero)) c.steps.invariant
    ∙ sym c.in_ok-step.ensures.ok

pub finish-requires-clause-net : goal.finish-requires-clause-net
finish-requires-clause-net c =
    let r = c.requires in
    (stand c.args.numerator.now c.args.divisor c.args.net.now r.net r.divisor r.numerator c.steps.k (omega (arith, c.steps.auto.k-end)) _ c.steps.invariant).later.valid

pub finish-requires-clause-divisor : goal.finish-requires-clause-divisor
finish-requires-clause-divisor c =
    let r = c.requires in
    divisor c.args.numerator.now c.args.divisor c.args.net.now r.net r.divisor r.numerator c.steps.k (omega (arith, c.steps.auto.k-end)) _ c.steps.invariant

pub finish-requires-clause-ready : goal.finish-requires-clause-ready
finish-requires-clause-ready c =
    let r = c.requires in
    (stand c.args.numerator.now c.args.divisor c.args.net.now r.net r.divisor r.numerator c.steps.k (omega (arith, c.steps.auto.k-end)) _ c.steps.invariant).ready

-- all steps, and the end
module _ (exact : Bool) (numerator : List WordBit) (v : Divisor) (net : Net) (k : ℕ) (all : length numerator ≡ k) (d : Division)
    (so_far : after numerator v net k ≡ d) (known : Known) (ended : known ≡ finished exact v d) where
  whole : divided exact numerator v net ≡ known
  whole = ap (finished exact v) (ap (after numerator v net) all ∙ so_far) ∙ sym ended

pub returns-clause-ok : goal.returns-clause-ok
returns-clause-ok c =
    whole c.args.exact c.args.numerator.now c.args.divisor c.args.net.now c.steps.k (omega (arith, c.steps-test.false, c.steps.auto.k-end)) _ c.steps.invariant _
    c.in_ok-digits.ensures.ok

pub returns-clause-grown : goal.returns-clause-grown
returns-clause-grown c =
    let r = c.requires in
    let bits = c.args.numerator.now in
    let v = c.args.divisor in
    let net = c.args.net.now in
    let same =
    whole c.args.exact bits v net c.steps.k (omega (arith, c.steps-test.false, c.steps.auto.k-end)) _ c.steps.invariant _ c.in_ok-digits.ensures.ok in
    subst (λ (k : Known). HasGrown net k.net) same (done-later bits v net r.net r.divisor r.numerator c.args.exact).grown

pub returns-clause-there : goal.returns-clause-there
returns-clause-there c =
    let r = c.requires in
    let bits = c.args.numerator.now in
    let v = c.args.divisor in
    let net = c.args.net.now in
    let same =
    whole c.args.exact bits v net c.steps.k (omega (arith, c.steps-test.false, c.steps.auto.k-end)) _ c.steps.invariant _ c.in_ok-digits.ensures.ok in
    subst (AreResults c.args.exact) same (done-results bits v net r.net r.divisor r.numerator c.args.exact r.digits)

pub returns-clause-steps : goal.returns-clause-steps
returns-clause-steps c =
    let r = c.requires in
    let bits = c.args.numerator.now in
    let v = c.args.divisor in
    let net = c.args.net.now in
    let same =
    whole c.args.exact bits v net c.steps.k (omega (arith, c.steps-test.false, c.steps.auto.k-end)) _ c.steps.invariant _ c.in_ok-digits.ensures.ok in
    subst (λ (k : Known). HoldsAfterEachStep bits v net k.net) same (steps-hold bits v net r.net r.divisor r.numerator c.args.exact)

pub returns-clause-quotient : goal.returns-clause-quotient
returns-clause-quotient c =
    let r = c.requires in
    let bits = c.args.numerator.now in
    let v = c.args.divisor in
    let net = c.args.net.now in
    let same =
    whole c.args.exact bits v net c.steps.k (omega (arith, c.steps-test.false, c.steps.auto.k-end)) _ c.steps.invariant _ c.in_ok-digits.ensures.ok in
    subst (HasQuotient c.args.exact bits v) same (has_quotient bits v net r.net r.divisor r.numerator c.args.exact)
