use Rattle.std.proofs.Common.{◌≡◌, ℕ, suc, ◌+◌, ◌<◌, Bool, ◌||◌, List, [], ◌∷◌, ◌++◌, length, nat_lt, sym, ap, ◌∙◌, subst, arith}
use Rattle.std.specs.Prelude.{All, slice_index, slice_index_or}
use Rattle.std.proofs.lemmas.Bool.{or_left}
use Rattle.opgen_net.specs.declared.word_bits.WordBit.{WordBit}
use Rattle.opgen_net.specs.declared.word_bits.WordBit.TheVariants.{Zero}
use Rattle.opgen_net.specs.Valid.{widths}
use Rattle.opgen_net.specs.WordRule.{IsThere}
use Rattle.opgen_kinds.specs.declared.pair.Pair.{Pair}
use Rattle.opgen_kinds.specs.Pair.{IsAcceptedPair}
use Rattle.opgen_digits.specs.Digit.{Known}
use Rattle.opgen_divide.specs.Recipe.{numerator, digit_count, with_divisor, stepped, keeps, after}
use Rattle.opgen_divide.proofs.Absolutes.{HasWidths}
use Rattle.opgen_divide.proofs.Steps.{Stands, stands, keeps-before, numerator-length, minuend-there, place-width}
use Rattle.opgen_divide.proofs.Whole.{has_widths}
use Rattle.opgen_divide.proofs.restoring.divide.Goals as goal
use Rattle.opgen_divide.proofs.restoring.divide.Goals.{then-pair, else-pair}

-- before a step
module _ (p : Pair) (is : IsAcceptedPair p) (bits : List WordBit) (same : bits ≡ numerator p) (k : ℕ) (within : k < length bits)
    (known : Known) (so_far : after p k ≡ known) where
  abbrev have : HasWidths p
  have = has_widths p is

  before : k < digit_count p
  before = omega (arith, within, ap length same, numerator-length p have)

  stand : Stands p have k known
  stand = subst (Stands p have k) so_far (stands p have k (omega (arith, before)))

  there : All (IsThere (widths known.net.nodes)) (Zero ∷ (known.rest ++ slice_index_or bits k Zero ∷ []))
  there =
      subst (λ (b : WordBit). All (IsThere (widths known.net.nodes)) (Zero ∷ (known.rest ++ b ∷ [])))
      (ap (λ (bs : List WordBit). slice_index_or bs k Zero) (sym same))
      (minuend-there p have k known before stand)

  next : (keep : Bool) (divisor : ℕ) (new : Known) → keeps p (k + 1) ≡ keep → divisor ≡ (with_divisor p).place
      → stepped keep p.b.width divisor known (slice_index_or bits k Zero) ≡ new → after p (k + 1) ≡ new
  next keep divisor new kept place made =
      let e : k + 1 ≡ suc k = omega arith in
      ap (after p) e
      ∙ ap (λ (old : Known). stepped (keeps p (suc k)) p.b.width (with_divisor p).place old (slice_index_or (numerator p) k Zero)) so_far
      ∙ ap (λ (c : Bool). stepped c p.b.width (with_divisor p).place known (slice_index_or (numerator p) k Zero))
      (ap (keeps p) (sym e) ∙ kept)
      ∙ ap (λ (d : ℕ). stepped keep p.b.width d known (slice_index_or (numerator p) k Zero)) (sym place)
      ∙ ap (λ (bs : List WordBit). stepped keep p.b.width divisor known (slice_index_or bs k Zero)) (sym same)
      ∙ made

pub step-requires-clause-net : goal.step-requires-clause-net
step-requires-clause-net c =
    let p = c.args.pair.now in
    let s = stand p c.requires.pair c.args.numerator.now c.requires.numerator c.steps.k c.steps-test.true _ c.steps.invariant in
    s.later.valid

pub step-requires-clause-rest : goal.step-requires-clause-rest
step-requires-clause-rest c =
    let p = c.args.pair.now in
    let s = stand p c.requires.pair c.args.numerator.now c.requires.numerator c.steps.k c.steps-test.true _ c.steps.invariant in
    let h = before p c.requires.pair c.args.numerator.now c.requires.numerator c.steps.k c.steps-test.true _ c.steps.invariant in
    s.rest_count (keeps-before p (has_widths p c.requires.pair) c.steps.k h)

pub step-requires-clause-there : goal.step-requires-clause-there
step-requires-clause-there c =
    there c.args.pair.now c.requires.pair c.args.numerator.now c.requires.numerator c.steps.k c.steps-test.true _ c.steps.invariant

pub step-requires-clause-divisor : goal.step-requires-clause-divisor
step-requires-clause-divisor c =
    let p = c.args.pair.now in
    let s = stand p c.requires.pair c.args.numerator.now c.requires.numerator c.steps.k c.steps-test.true _ c.steps.invariant in
    let h = before p c.requires.pair c.args.numerator.now c.requires.numerator c.steps.k c.steps-test.true _ c.steps.invariant in
    subst (λ (n : ℕ). slice_index (widths c.steps.net.nodes) n ≡ p.b.width + 2) (sym c.requires.divisor)
    (place-width p (has_widths p c.requires.pair) c.steps.k _ h s)

pub steps-preserved : goal.steps-preserved
steps-preserved c =
    let p = c.args.pair.now in
    let count : length c.args.numerator.now ≡ digit_count p =
    ap length c.requires.numerator ∙ numerator-length p (has_widths p c.requires.pair) in
    let kept : keeps p (c.steps.k + 1) ≡ c.if-pair.keep = elim c.if-pair.branch [
      | then-pair w ↦ or_left p.exact (nat_lt (c.steps.k + 1) (digit_count p)) w.if-pair.true ∙ sym w.if-pair.true ∙ sym w.keep-is
      | else-pair w ↦ ap (λ (b : Bool). b || nat_lt (c.steps.k + 1) (digit_count p)) w.if-pair.false
          ∙ ap (nat_lt (c.steps.k + 1)) (sym count) ∙ sym w.keep-is
    ] in
    next p c.requires.pair c.args.numerator.now c.requires.numerator c.steps.k c.steps-test.true _ c.steps.invariant c.if-pair.keep
    c.args.divisor _ kept c.requires.divisor c.in_ok-step.ensures.ok

pub returns-clause-ok : goal.returns-clause-ok
returns-clause-ok c =
    let p = c.args.pair.now in
    let count : length c.args.numerator.now ≡ digit_count p =
    ap length c.requires.numerator ∙ numerator-length p (has_widths p c.requires.pair) in
    let all : digit_count p ≡ c.steps.k = omega (arith, count, c.steps-test.false, c.steps.auto.k-end) in
    ap (after p) all ∙ c.steps.invariant

pub returns-clause-valid : goal.returns-clause-valid
returns-clause-valid c =
    let p = c.args.pair.now in
    let count : length c.args.numerator.now ≡ digit_count p =
    ap length c.requires.numerator ∙ numerator-length p (has_widths p c.requires.pair) in
    let s =
    subst (Stands p (has_widths p c.requires.pair) c.steps.k) c.steps.invariant
    (stands p (has_widths p c.requires.pair) c.steps.k (omega (arith, count, c.steps.auto.k-end))) in
    s.later.valid
