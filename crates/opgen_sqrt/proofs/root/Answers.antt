use Rattle.std.proofs.Common.{◌≡◌, ℕ, suc, ◌+◌, ◌*◌, ◌<◌, Bool, ◌||◌, List, [], ◌∷◌, ◌++◌, length, nat_lt, sym, ap, ◌∙◌, subst, arith}
use Rattle.std.specs.Prelude.{All, slice_index_or}
use Rattle.std.proofs.lemmas.Bool.{or_left}
use Rattle.opgen_net.specs.declared.word_bits.WordBit.{WordBit}
use Rattle.opgen_net.specs.declared.word_bits.WordBit.TheVariants.{Zero}
use Rattle.opgen_net.specs.Valid.{widths}
use Rattle.opgen_net.specs.WordRule.{IsThere}
use Rattle.opgen_kinds.specs.declared.single.Single.{Single}
use Rattle.opgen_kinds.specs.Single.{IsAcceptedSingle, root_width}
use Rattle.opgen_digits.specs.Digit.{Known}
use Rattle.opgen_sqrt.specs.Recipe.{radicand, stepped, keeps, after}
use Rattle.opgen_sqrt.proofs.Steps.{HasWidths, Stands, stands, within, rest-length, minuend-there}
use Rattle.opgen_sqrt.proofs.Whole.{has_widths}
use Rattle.opgen_sqrt.proofs.root.Goals as goal
use Rattle.opgen_sqrt.proofs.root.Goals.{then-single, else-single}

-- before a step
module _ (r : Single) (is : IsAcceptedSingle r) (bits : List WordBit) (same : bits ≡ radicand r) (k : ℕ) (before : k < root_width r)
    (known : Known) (so_far : after r k ≡ known) where
  abbrev have : HasWidths r
  have = has_widths r is

  stand : Stands r have k known
  stand = subst (Stands r have k) so_far (stands r have k (omega (arith, before)))

  low-within : 2 * k + 1 < length bits
  low-within = omega (arith, ap length same, within r have k known before stand)

  high-within : 2 * k < length bits
  high-within = omega (arith, low-within)

  -- the next two bits
  abbrev high : List WordBit → WordBit
  high bs = slice_index_or bs (2 * k) Zero

  abbrev low : List WordBit → WordBit
  low bs = slice_index_or bs (2 * k + 1) Zero

  there : All (IsThere (widths known.net.nodes)) (Zero ∷ (known.rest ++ high bits ∷ low bits ∷ []))
  there =
      subst (λ (bs : List WordBit). All (IsThere (widths known.net.nodes)) (Zero ∷ (known.rest ++ high bs ∷ low bs ∷ []))) (sym same)
      (minuend-there r have k known before stand)

  next : (keep : Bool) (new : Known) → keeps r (k + 1) ≡ keep
      → stepped keep (k + 2) known (high bits) (low bits) ≡ new → after r (k + 1) ≡ new
  next keep new kept made =
      let e : k + 1 ≡ suc k = omega arith in
      let bs = radicand r in
      ap (after r) e
      ∙ ap (λ (old : Known). stepped (keeps r (suc k)) (k + 2) old (high bs) (low bs)) so_far
      ∙ ap (λ (c : Bool). stepped c (k + 2) known (high bs) (low bs)) (ap (keeps r) (sym e) ∙ kept)
      ∙ ap (λ (given : List WordBit). stepped keep (k + 2) known (high given) (low given)) (sym same)
      ∙ made

count : (r : Single) (width k : ℕ) → width ≡ root_width r → k < width → k < root_width r
count r width k e h = omega (arith, e, h)

pub bounds-radicand-place : goal.bounds-radicand-place
bounds-radicand-place c =
    let h = count c.args.single.now c.root-count.result.width c.steps.k (ap (λ f. f.width) c.root-count.ensures.value) c.steps-test.true in
    high-within c.args.single.now c.requires.single c.args.radicand.now c.requires.radicand c.steps.k h _ c.steps.invariant

pub bounds-radicand-place-in-steps : goal.bounds-radicand-place-in-steps
bounds-radicand-place-in-steps c =
    let h = count c.args.single.now c.root-count.result.width c.steps.k (ap (λ f. f.width) c.root-count.ensures.value) c.steps-test.true in
    low-within c.args.single.now c.requires.single c.args.radicand.now c.requires.radicand c.steps.k h _ c.steps.invariant

pub step-requires-clause-net : goal.step-requires-clause-net
step-requires-clause-net c =
    let h = count c.args.single.now c.root-count.result.width c.steps.k (ap (λ f. f.width) c.root-count.ensures.value) c.steps-test.true in
    (stand c.args.single.now c.requires.single c.args.radicand.now c.requires.radicand c.steps.k h _ c.steps.invariant).later.valid

pub step-requires-clause-rest : goal.step-requires-clause-rest
step-requires-clause-rest c =
    let r = c.args.single.now in
    let h = count r c.root-count.result.width c.steps.k (ap (λ f. f.width) c.root-count.ensures.value) c.steps-test.true in
    let s = stand r c.requires.single c.args.radicand.now c.requires.radicand c.steps.k h _ c.steps.invariant in
    omega (arith, rest-length r (has_widths r c.requires.single) c.steps.k _ h s)

pub step-requires-clause-known : goal.step-requires-clause-known
step-requires-clause-known c =
    let h = count c.args.single.now c.root-count.result.width c.steps.k (ap (λ f. f.width) c.root-count.ensures.value) c.steps-test.true in
    let s = stand c.args.single.now c.requires.single c.args.radicand.now c.requires.radicand c.steps.k h _ c.steps.invariant in
    omega (arith, s.count)

pub step-requires-clause-there : goal.step-requires-clause-there
step-requires-clause-there c =
    let h = count c.args.single.now c.root-count.result.width c.steps.k (ap (λ f. f.width) c.root-count.ensures.value) c.steps-test.true in
    there c.args.single.now c.requires.single c.args.radicand.now c.requires.radicand c.steps.k h _ c.steps.invariant

pub step-requires-clause-digits : goal.step-requires-clause-digits
step-requires-clause-digits c =
    let h = count c.args.single.now c.root-count.result.width c.steps.k (ap (λ f. f.width) c.root-count.ensures.value) c.steps-test.true in
    (stand c.args.single.now c.requires.single c.args.radicand.now c.requires.radicand c.steps.k h _ c.steps.invariant).digits

pub steps-preserved : goal.steps-preserved
steps-preserved c =
    let r = c.args.single.now in
    let width : c.root-count.result.width ≡ root_width r = ap (λ f. f.width) c.root-count.ensures.value in
    let h = count r c.root-count.result.width c.steps.k width c.steps-test.true in
    let kept : keeps r (c.steps.k + 1) ≡ c.if-single.keep = elim c.if-single.branch [
      | then-single w ↦ or_left r.exact (nat_lt (c.steps.k + 1) (root_width r)) w.if-single.true ∙ sym w.if-single.true ∙ sym w.keep-is
      | else-single w ↦ ap (λ (b : Bool). b || nat_lt (c.steps.k + 1) (root_width r)) w.if-single.false
          ∙ ap (nat_lt (c.steps.k + 1)) (sym width) ∙ sym w.keep-is
    ] in
    next r c.requires.single c.args.radicand.now c.requires.radicand c.steps.k h _ c.steps.invariant c.if-single.keep _ kept
    c.in_ok-step.ensures.ok

pub returns-clause-valid : goal.returns-clause-valid
returns-clause-valid c =
    let r = c.args.single.now in
    let width : c.root-count.result.width ≡ root_width r = ap (λ f. f.width) c.root-count.ensures.value in
    let have = has_widths r c.requires.single in
    (subst (Stands r have c.steps.k) c.steps.invariant (stands r have c.steps.k (omega (arith, width, c.steps.auto.k-end)))).later.valid
