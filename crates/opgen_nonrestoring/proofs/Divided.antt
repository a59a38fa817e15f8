-- What a division leaves: the net, the digits and the remainder, the invariant after each step, and the quotient.
use Rattle.std.proofs.Common.{◌≡◌, ℕ, zero, suc, ◌+◌, ◌-◌, ◌*◌, ◌^◌, ◌<◌, ◌≤◌, Bool, true, false, List, length, map, take, if◌then◌else◌, refl, sym, ap, ◌∙◌, subst, arith}
use Rattle.std.specs.Prelude.{ℤ, negsuc, ◌-ℤ◌, All, slice_index, slice_index_or}
use Rattle.std.proofs.Math.Seq.{take-length}
use Rattle.std.proofs.lemmas.List.Elements.{All-nil, All-take}
use Rattle.opgen_num.specs.Rounding.{IsQuotient}
use Rattle.opgen_num.specs.Words.{digit, int, nat}
use Rattle.opgen_num.proofs.Cuts.{take-below}
use Rattle.opgen_design.specs.Run.{AreWords}
use Rattle.opgen_design.specs.Value.{IsWidth}
use Rattle.opgen_net.specs.declared.net.Net.{Net}
use Rattle.opgen_net.specs.declared.word_bits.WordBit.{WordBit}
use Rattle.opgen_net.specs.declared.word_bits.WordBit.TheVariants.{Zero, Of}
use Rattle.opgen_net.specs.Flow.{Inputs, flow, KeepsFlow}
use Rattle.opgen_net.specs.Placed.{number_at}
use Rattle.opgen_net.specs.Valid.{widths, input_widths, IsValid}
use Rattle.opgen_net.specs.WordRule.{IsThere, bit_flow}
use Rattle.opgen_net.proofs.BitLists.{bit-kept, length-bits_from}
use Rattle.opgen_net.proofs.FlowWidths.{flow-width}
use Rattle.opgen_net.proofs.Grown.{grown-keeps, grown-all_there}
use Rattle.opgen_net.proofs.Later.{Later, later-then, later-same, node_there, words-later}
use Rattle.opgen_net.proofs.Numbers.{number-kept}
use Rattle.opgen_digits.specs.Digit.{Known}
use Rattle.opgen_digits.specs.Results.{AreResults}
use Rattle.opgen_nonrestoring.specs.declared.Divisor.{Divisor}
use Rattle.opgen_nonrestoring.specs.Recurrence.{Partial, IsInvariant, next_partial, partial_after}
use Rattle.opgen_nonrestoring.specs.Recipe.{Division, after, divided}
use Rattle.opgen_nonrestoring.specs.Steps.{IsDivisor, partial_at, HoldsStep, HoldsAfterEachStep, IsQuotientOf, HasQuotient}
use Rattle.opgen_nonrestoring.proofs.Numbers.{IsSum, digit_of, digit-is, rest-is}
use Rattle.opgen_nonrestoring.proofs.Recurrences.{invariant-is, sum-is}
use Rattle.opgen_nonrestoring.proofs.Stands.{Stands, Holds, stands, later-by, divisor-below, double}
use Rattle.opgen_nonrestoring.proofs.Steps.{kept-width, kept-flow}
use Rattle.opgen_nonrestoring.proofs.Finished as end

-- a quotient with any rest is one with the rest that the numbers have
rest-of : (n b q r : ℕ) → IsQuotient n b q r → n - q * b ≡ r
rest-of n b q r h = omega (arith, h.0)

pub quotient-of : (exact : Bool) (n b q r rest : ℕ) → IsQuotient n b q r → (exact ≡ true → rest ≡ r) → IsQuotientOf exact n b q rest
quotient-of exact n b q r rest h same =
    let e = rest-of n b q r h in
    record { quotient = subst (IsQuotient n b q) (sym e) h; remainder = λ x. same x ∙ sym e }

-- the recurrence by the same divisor and the same bits
partial-same : (b : ℕ) (f g : ℕ → Bool) (k : ℕ) → ((i : ℕ) → i < k → f i ≡ g i) → partial_after b f k ≡ partial_after b g k
partial-same b f g zero h = refl
partial-same b f g (suc k) h =
    ap (λ p. next_partial b p (f k)) (partial-same b f g k (λ i l. h i (omega (arith, l))))
    ∙ ap (next_partial b (partial_after b g k)) (h k (omega arith))

same-invariant : (n m b c q y : ℕ) (last next : Bool) (p o : Partial) → n ≡ m → b ≡ c → q ≡ y → last ≡ next → p ≡ o
    → IsInvariant n b q last p → IsInvariant m c y next o
same-invariant n m b c q y last next p o e f g h i is =
    subst (λ k. IsInvariant k c y next o) e
    (subst (λ k. IsInvariant n k y next o) f
    (subst (λ k. IsInvariant n b k next o) g (subst (λ k. IsInvariant n b q k o) h (subst (IsInvariant n b q last) i is))))

module _ (numerator : List WordBit) (v : Divisor) (net : Net) (valid : IsValid net) (is : IsDivisor net v)
    (there : All (IsThere (widths net.nodes)) numerator) where
  abbrev w : ℕ
  w = v.width

  abbrev count : ℕ
  count = length numerator

  abbrev done : Division
  done = after numerator v net count

  all : Stands numerator v net valid is there count done
  all = stands numerator v net valid is there count (omega arith)

  divisor-done : IsDivisor done.net v
  divisor-done = record { some = is.some; few = is.few; wide = kept-width net done.net all.later v.node w is.some is.wide }

  abbrev known : (exact : Bool) → Known
  known exact = divided exact numerator v net

  end-later : (exact : Bool) → Later done.net (known exact).net
  end-later true = end.three-later v done all.later.valid divisor-done all.ready
  end-later false = later-same done.net all.later.valid

  pub done-later : (exact : Bool) → Later net (known exact).net
  done-later exact = later-then net done.net (known exact).net all.later (end-later exact)

  pub done-results : (exact : Bool) → IsWidth count → AreResults exact (known exact)
  done-results true wide = record {
    width = subst IsWidth (sym all.count) wide;
    digits = grown-all_there done.net (known true).net (end-later true).grown done.digits all.digits;
    rest_width = λ _.
        let rest_wide : IsWidth w = (is.some, omega (arith, is.few)) in
        subst IsWidth (sym (length-bits_from (end.r v done all.later.valid divisor-done all.ready) 0 w)) rest_wide;
    rest = end.rest-there v done all.later.valid divisor-done all.ready;
  }
  done-results false wide = record {
    width = subst IsWidth (sym all.count) wide;
    digits = all.digits;
    rest_width = λ h. absurd (cc);
    rest = All-nil (IsThere (widths done.net.nodes));
  }

  pub done-count : (exact : Bool) → length (known exact).digits ≡ count
  done-count true = all.count
  done-count false = all.count

  pub done-rest : length (known true).rest ≡ w
  done-rest = length-bits_from (end.r v done all.later.valid divisor-done all.ready) 0 w

  -- at a time, in a net that keeps the words of the nodes
  module _ (exact : Bool) (final : Net) (keeps : KeepsFlow (known exact).net.nodes final.nodes) (inputs : Inputs) (t : ℤ)
      (words : All (AreWords (input_widths net)) inputs) where
    first-keeps : KeepsFlow net.nodes final.nodes
    first-keeps = grown-keeps net (known exact).net (done-later exact).grown final.nodes keeps

    number-same : (taken : List WordBit) → All (IsThere (widths net.nodes)) taken
        → number_at net.nodes inputs t taken ≡ number_at final.nodes inputs t taken
    number-same taken h = sym (number-kept net.nodes final.nodes first-keeps inputs t taken h)

    abbrev b : ℕ
    b = nat (flow net.nodes inputs v.node t)

    divisor-same : b ≡ nat (flow final.nodes inputs v.node t)
    divisor-same = ap nat (sym (first-keeps inputs v.node t (node_there net v.node w is.some is.wide)))

    small : b ≤ 2 ^ w
    small = omega (arith, divisor-below numerator v net valid is there inputs t words)

    -- after each step
    module _ (k : ℕ) (within : k ≤ count) where
      abbrev d : Division
      d = after numerator v net k

      stand : Stands numerator v net valid is there k d
      stand = stands numerator v net valid is there k within

      -- the net after the step grows into the last one
      step-later : Later d.net (known exact).net
      step-later =
          let j = count - k in
          let e : k + j ≡ count = omega (arith, within) in
          let one =
          subst (λ m. Later d.net (after numerator v net m).net) e (later-by numerator v net valid is there k j (omega (arith, e))) in
          later-then d.net done.net (known exact).net one (end-later exact)

      step-keeps : KeepsFlow d.net.nodes final.nodes
      step-keeps = grown-keeps d.net (known exact).net step-later.grown final.nodes keeps

      taken-there : All (IsThere (widths net.nodes)) (take k numerator)
      taken-there = All-take (IsThere (widths net.nodes)) k numerator there

      bit-same : (node : ℕ) → slice_index (widths d.net.nodes) node ≡ 1
          → bit_flow d.net.nodes inputs t (Of node 0) ≡ bit_flow final.nodes inputs t (Of node 0)
      bit-same node h = ap (λ x. slice_index_or x 0 false) (sym (step-keeps inputs node t (node_there d.net node 1 (omega arith) h)))

      digits-same : number_at d.net.nodes inputs t d.digits ≡ number_at final.nodes inputs t d.digits
      digits-same = sym (number-kept d.net.nodes final.nodes step-keeps inputs t d.digits stand.digits)

      partial-is : partial_at net inputs t numerator v k ≡ partial_at final inputs t numerator v k
      partial-is =
          partial-same b (λ i. bit_flow net.nodes inputs t (slice_index_or numerator i Zero))
          (λ i. bit_flow final.nodes inputs t (slice_index_or numerator i Zero)) k (
          λ i l. sym (bit-kept net.nodes final.nodes first-keeps inputs t
          (slice_index_or numerator i Zero) (there i Zero (omega (arith, l, within))))
          )
          ∙ ap (λ c. partial_after c (λ i. bit_flow final.nodes inputs t (slice_index_or numerator i Zero)) k) divisor-same

      pub step-holds : 0 < nat (flow final.nodes inputs v.node t)
          → HoldsStep final inputs t (take k numerator) v d (partial_at final inputs t numerator v k)
      step-holds some =
          let h = stand.right inputs t words (omega (arith, some, divisor-same)) in
          let old = partial_at net inputs t numerator v k in
          let q = number_at d.net.nodes inputs t d.digits in
          let s = flow d.net.nodes inputs d.sum t in
          let before = bit_flow d.net.nodes inputs t (Of d.before 0) in
          let last = bit_flow d.net.nodes inputs t (Of d.last 0) in
          let long : length s ≡ w + 1 =
          flow-width d.net stand.later.valid inputs (words-later net d.net stand.later inputs words) d.sum t ∙ stand.ready.sum in
          let twice : 2 ^ length s ≡ 2 ^ w + 2 ^ w = ap (λ m. 2 ^ m) long ∙ double numerator v net valid is there in
          let sum : IsSum before last (2 ^ length s) b h.rest (nat s) = subst (λ m. IsSum before last (2 ^ m) b h.rest (nat s)) (sym long) h.sum in
          let same_sum : s ≡ flow final.nodes inputs d.sum t =
          sym (step-keeps inputs d.sum t (node_there d.net d.sum (w + 1) (omega arith) stand.ready.sum)) in
          record {
            invariant =
                same-invariant (number_at net.nodes inputs t (take k numerator)) (number_at final.nodes inputs t (take k numerator)) b
                (nat (flow final.nodes inputs v.node t)) q (number_at final.nodes inputs t d.digits) last
                (bit_flow final.nodes inputs t (Of d.last 0)) old (partial_at final inputs t numerator v k)
                (number-same (take k numerator) taken-there) divisor-same digits-same (bit-same d.last stand.ready.last) partial-is
                (invariant-is b q h.rest h.quotient.1 old (number_at net.nodes inputs t (take k numerator)) last h.quotient h.recurrence);
            sum =
                ap (λ (p : Partial). p.remainder) (sym partial-is)
                ∙ sum-is (2 ^ w) b q h.rest s twice small h.quotient.1 old before last sum h.recurrence
                ∙ ap (λ (c : Bool). if c then negsuc 0 -ℤ int s else int s) (bit-same d.before stand.ready.before)
                ∙ ap (λ x. if bit_flow final.nodes inputs t (Of d.before 0) then negsuc 0 -ℤ int x else int x) same_sum;
          }

  -- the remainder
  module _ (inputs : Inputs) (t : ℤ) (words : All (AreWords (input_widths net)) inputs) (some : 0 < nat (flow net.nodes inputs v.node t)) where
    holds : Holds numerator v net valid is there count done inputs t
    holds = all.right inputs t words some

    now : All (AreWords (input_widths done.net)) inputs
    now = words-later net done.net all.later inputs words

    abbrev low : List Bool
    low = end.low v done all.later.valid divisor-done all.ready inputs t now

    abbrev high : Bool
    high = end.high v done all.later.valid divisor-done all.ready inputs t now

    abbrev before : Bool
    before = bit_flow done.net.nodes inputs t (Of done.before 0)

    abbrev last : Bool
    last = bit_flow done.net.nodes inputs t (Of done.last 0)

    abbrev sum : List Bool
    sum = flow done.net.nodes inputs done.sum t

    abbrev number : ℕ
    number = nat (flow net.nodes inputs v.node t)

    few : number ≤ 2 ^ w
    few = omega (arith, divisor-below numerator v net valid is there inputs t words)

    sum-parts : nat sum ≡ nat low + digit high * 2 ^ w
    sum-parts = (end.sum_top v done all.later.valid divisor-done all.ready inputs t now).2

    last-is : last ≡ digit_of before high
    last-is =
        digit-is (2 ^ w) (2 ^ (w + 1)) number holds.rest (nat sum) (nat low) (double numerator v net valid is there) few holds.quotient.1
        (take-below w sum) before last high holds.sum sum-parts

    rest-is_right : number_at (known true).net.nodes inputs t (known true).rest ≡ holds.rest
    rest-is_right =
        let o = end.out-total v done all.later.valid divisor-done all.ready inputs t now in
        let bits = end.bits v done all.later.valid divisor-done all.ready inputs t now in
        let added = end.added v done all.later.valid divisor-done all.ready inputs t now in
        let out = end.out v done all.later.valid divisor-done all.ready inputs t now in
        let kept : nat (flow done.net.nodes inputs v.node t) ≡ number = ap nat (kept-flow net done.net all.later v.node w is.some is.wide inputs t) in
        end.rest-number v done all.later.valid divisor-done all.ready inputs t now
        ∙ rest-is (2 ^ w) (2 ^ (w + 1)) number holds.rest (nat sum) (nat low) (nat bits) (nat added) (nat out)
        (double numerator v net valid is there) few holds.quotient.1 (take-below w sum)
        (end.out-below v done all.later.valid divisor-done all.ready inputs t now) before last high o.0 holds.sum sum-parts
        (end.bits-one v done all.later.valid divisor-done all.ready inputs t now)
        (end.bits-zero v done all.later.valid divisor-done all.ready inputs t now)
        (end.added-one v done all.later.valid divisor-done all.ready inputs t now last last-is)
        (λ e. end.added-zero v done all.later.valid divisor-done all.ready inputs t now last last-is e ∙ kept) o.1

  words_before : (made : Net) → made.inputs ≡ net.inputs → (inputs : Inputs) → All (AreWords (input_widths made)) inputs
      → All (AreWords (input_widths net)) inputs
  words_before made same inputs words = subst (λ is. All (AreWords (map (λ (i : List ℕ × ℕ). i.1) is)) inputs) same words

  -- the steps hold in every net of the same inputs that keeps the words of the nodes
  pub steps-hold_in : (exact : Bool) (made : Net) → KeepsFlow (known exact).net.nodes made.nodes → made.inputs ≡ net.inputs
      → HoldsAfterEachStep numerator v net made
  steps-hold_in exact made keeps same k within inputs t words some =
      step-holds exact made keeps inputs t (words_before made same inputs words) k within some

  still : (exact : Bool) → KeepsFlow (known exact).net.nodes (known exact).net.nodes
  still exact inputs n t h = refl

  pub steps-hold : (exact : Bool) → HoldsAfterEachStep numerator v net (known exact).net
  steps-hold exact = steps-hold_in exact (known exact).net (still exact) (done-later exact).grown.inputs

  pub has_quotient : (exact : Bool) → HasQuotient exact numerator v (known exact)
  has_quotient exact inputs t words some =
      let first = words_before (known exact).net (done-later exact).grown.inputs inputs words in
      let same = divisor-same exact (known exact).net (still exact) inputs t first in
      let above : 0 < nat (flow net.nodes inputs v.node t) = omega (arith, some, same) in
      let h = holds inputs t first above in
      let whole : number_at net.nodes inputs t (take count numerator) ≡ number_at (known exact).net.nodes inputs t numerator =
      ap (number_at net.nodes inputs t) (take-length numerator) ∙ number-same exact (known exact).net (still exact) inputs t first numerator there in
      let found =
      subst (λ m. IsQuotient m (nat (flow net.nodes inputs v.node t)) (number_at done.net.nodes inputs t done.digits) h.rest) whole h.quotient in
      let divided_by =
      subst (λ m. IsQuotient (number_at (known exact).net.nodes inputs t numerator) m (number_at done.net.nodes inputs t done.digits) h.rest)
      same found in
      quotient-of exact (number_at (known exact).net.nodes inputs t numerator) (nat (flow (known exact).net.nodes inputs v.node t))
      (number_at (known exact).net.nodes inputs t (known exact).digits) h.rest (number_at (known exact).net.nodes inputs t (known exact).rest)
      (subst (λ m. IsQuotient (number_at (known exact).net.nodes inputs t numerator) (nat (flow (known exact).net.nodes inputs v.node t)) m h.rest)
      (digits exact inputs t first) divided_by)
      (rest exact inputs t first above)
    where
      digits : (exact : Bool) (inputs : Inputs) (t : ℤ) (first : All (AreWords (input_widths net)) inputs)
          → number_at done.net.nodes inputs t done.digits ≡ number_at (known exact).net.nodes inputs t (known exact).digits
      digits true inputs t first = digits-same true (known true).net (still true) inputs t first count (omega arith)
      digits false inputs t first = refl

      rest : (exact : Bool) (inputs : Inputs) (t : ℤ) (first : All (AreWords (input_widths net)) inputs)
          (above : 0 < nat (flow net.nodes inputs v.node t)) → exact ≡ true
          → number_at (known exact).net.nodes inputs t (known exact).rest ≡ (holds inputs t first above).rest
      rest true inputs t first above e = rest-is_right inputs t first above
      rest false inputs t first above e = absurd (cc)
