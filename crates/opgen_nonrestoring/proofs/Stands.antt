-- What stands after each step, by induction.
use Rattle.std.proofs.Common.{◌≡◌, ℕ, zero, suc, ◌+◌, ◌*◌, ◌^◌, ◌<◌, ◌≤◌, Bool, true, false, not, List, [], ◌∷◌, length, length-append, take, refl, sym, ap, ◌∙◌, subst, arith}
use Rattle.std.specs.Prelude.{ℤ, All, slice_index, slice_index_or}
use Rattle.std.proofs.Math.Nat.{two-pow-succ}
use Rattle.std.proofs.Math.Seq.{take-suc}
use Rattle.std.proofs.lemmas.List.Elements.{All-nil}
use Rattle.opgen_num.specs.Rounding.{IsQuotient}
use Rattle.opgen_num.specs.WordLaws.{nat-word, length-word}
use Rattle.opgen_num.specs.Words.{digit, nat, word, xor}
use Rattle.opgen_num.proofs.Cuts.{take-below}
use Rattle.opgen_num.proofs.Words.{nat-below}
use Rattle.opgen_design.specs.Run.{AreWords}
use Rattle.opgen_design.specs.Value.{IsWidth}
use Rattle.opgen_net.specs.declared.net.Net.{Net}
use Rattle.opgen_net.specs.declared.node.Node.TheVariants.{Constant}
use Rattle.opgen_net.specs.declared.word_bits.WordBit.{WordBit}
use Rattle.opgen_net.specs.declared.word_bits.WordBit.TheVariants.{Zero, Of}
use Rattle.opgen_net.specs.Flow.{Inputs, flow}
use Rattle.opgen_net.specs.Placed.{number_at, with_last}
use Rattle.opgen_net.specs.Valid.{widths, input_widths, IsValid}
use Rattle.opgen_net.specs.WordRule.{IsThere, bit_flow}
use Rattle.opgen_net.proofs.Appending.{flow-append_last, width-append_last}
use Rattle.opgen_net.proofs.BitLists.{bit-kept}
use Rattle.opgen_net.proofs.FlowWidths.{flow-width}
use Rattle.opgen_net.proofs.Grown.{grown-flow, grown-there}
use Rattle.opgen_net.proofs.Later.{Later, later-then, later-node, later-same, words-later}
use Rattle.opgen_net.proofs.Numbers.{at-push}
use Rattle.opgen_nonrestoring.specs.declared.Divisor.{Divisor}
use Rattle.opgen_nonrestoring.specs.Recipe.{Division, start, stepped, after}
use Rattle.opgen_nonrestoring.specs.Steps.{IsDivisor, AreReady, partial_at}
use Rattle.opgen_nonrestoring.proofs.Numbers.{IsSum, IsNegative, HasNext, digit_of, digit-is, negative-is, next, next-quotient}
use Rattle.opgen_nonrestoring.proofs.Recurrences.{IsPartial, next-partial}
use Rattle.opgen_nonrestoring.proofs.Steps as step
use Rattle.opgen_nonrestoring.proofs.Steps.{kept-width, kept-flow}

-- the bit that is turned: by the last digit
turned-is : (a before last highest : Bool) → last ≡ digit_of before highest → not (xor (xor a before) highest) ≡ xor a last
turned-is a before last highest e = table a before highest ∙ ap (xor a) (sym e)
  where
    table : (a before highest : Bool) → not (xor (xor a before) highest) ≡ xor a (digit_of before highest)
    table true true true = refl
    table true true false = refl
    table true false true = refl
    table true false false = refl
    table false true true = refl
    table false true false = refl
    table false false true = refl
    table false false false = refl

module _ (numerator : List WordBit) (v : Divisor) (net : Net) (valid : IsValid net) (is : IsDivisor net v)
    (there : All (IsThere (widths net.nodes)) numerator) where
  abbrev w : ℕ
  w = v.width

  abbrev AreFor : Inputs → Type 0
  AreFor inputs = All (AreWords (input_widths net)) inputs

  -- the divisor at a time, and a bit of the numerator
  abbrev divisor_at : Inputs → ℤ → ℕ
  divisor_at inputs t = nat (flow net.nodes inputs v.node t)

  abbrev bit_at : ℕ → Inputs → ℤ → Bool
  bit_at k inputs t = bit_flow net.nodes inputs t (slice_index_or numerator k Zero)

  pub divisor-below : (inputs : Inputs) (t : ℤ) → AreFor inputs → divisor_at inputs t < 2 ^ w
  divisor-below inputs t words =
      let number = flow net.nodes inputs v.node t in
      subst (λ k. nat number < 2 ^ k) (flow-width net valid inputs words v.node t ∙ is.wide) (nat-below number)

  pub double : 2 ^ (w + 1) ≡ 2 ^ w + 2 ^ w
  double = let e : w + 1 ≡ suc w = omega arith in ap (λ k. 2 ^ k) e ∙ two-pow-succ w

  -- at a time, after some steps
  pub record Holds (k : ℕ) (d : Division) (inputs : Inputs) (t : ℤ) : Type 0 where
    pub rest : ℕ
    pub quotient :
        IsQuotient (number_at net.nodes inputs t (take k numerator)) (divisor_at inputs t) (number_at d.net.nodes inputs t d.digits) rest
    pub sum :
        IsSum (bit_flow d.net.nodes inputs t (Of d.before 0)) (bit_flow d.net.nodes inputs t (Of d.last 0)) (2 ^ (w + 1)) (divisor_at inputs t)
        rest (nat (flow d.net.nodes inputs d.sum t))
    pub recurrence :
        IsPartial (divisor_at inputs t) (number_at d.net.nodes inputs t d.digits) rest (bit_flow d.net.nodes inputs t (Of d.last 0))
        (partial_at net inputs t numerator v k)

  pub record Stands (k : ℕ) (d : Division) : Type 0 where
    pub later : Later net d.net
    pub ready : AreReady w d
    pub digits : All (IsThere (widths d.net.nodes)) d.digits
    pub count : length d.digits ≡ k
    pub right : (inputs : Inputs) (t : ℤ) → AreFor inputs → 0 < divisor_at inputs t → Holds k d inputs t

  -- before the first step

  abbrev zeros : Net
  zeros = with_last net (Constant (word (w + 1) 0))

  abbrev zero_bit : Net
  zero_bit = with_last zeros (Constant (word 1 0))

  abbrev first : Net
  first = with_last zero_bit (Constant (word 1 1))

  zeros-length : length (word (w + 1) 0) ≡ w + 1
  zeros-length = length-word (w + 1) 0

  zeros-wide : IsWidth (length (word (w + 1) 0))
  zeros-wide = subst IsWidth (sym zeros-length) (omega arith, is.few)

  one-wide : IsWidth 1
  one-wide = (omega arith, omega arith)

  zeros-later : Later net zeros
  zeros-later = later-node net (Constant (word (w + 1) 0)) valid zeros-wide refl

  zero_bit-after : Later zeros zero_bit
  zero_bit-after = later-node zeros (Constant (word 1 0)) zeros-later.valid one-wide refl

  first-after : Later zero_bit first
  first-after = later-node zero_bit (Constant (word 1 1)) zero_bit-after.valid one-wide refl

  after-zeros : Later zeros first
  after-zeros = later-then zeros zero_bit first zero_bit-after first-after

  pub first-later : Later net first
  first-later = later-then net zeros first zeros-later after-zeros

  zeros-width : slice_index (widths zeros.nodes) (length net.nodes) ≡ w + 1
  zeros-width = width-append_last net.nodes (Constant (word (w + 1) 0)) ∙ zeros-length

  zero_bit-width : slice_index (widths zero_bit.nodes) (length zeros.nodes) ≡ 1
  zero_bit-width = width-append_last zeros.nodes (Constant (word 1 0))

  start-ready : AreReady w (start w net)
  start-ready = record {
    before = kept-width zero_bit first first-after (length zeros.nodes) 1 (omega arith) zero_bit-width;
    last = width-append_last zero_bit.nodes (Constant (word 1 1));
    sum = kept-width zeros first after-zeros (length net.nodes) (w + 1) (omega arith) zeros-width;
  }

  module _ (inputs : Inputs) (t : ℤ) where
    start-before : bit_flow first.nodes inputs t (Of (length zeros.nodes) 0) ≡ false
    start-before =
        ap (λ x. slice_index_or x 0 false)
        (kept-flow zero_bit first first-after (length zeros.nodes) 1 (omega arith) zero_bit-width inputs t
        ∙ flow-append_last zeros.nodes (Constant (word 1 0)) inputs t)

    start-last : bit_flow first.nodes inputs t (Of (length zero_bit.nodes) 0) ≡ true
    start-last = ap (λ x. slice_index_or x 0 false) (flow-append_last zero_bit.nodes (Constant (word 1 1)) inputs t)

    some_power : 0 < 2 ^ (w + 1)
    some_power = omega (arith, nat-below (word (w + 1) 0), ap (λ k. 2 ^ k) zeros-length)

    start-sum : nat (flow first.nodes inputs (length net.nodes) t) ≡ 0
    start-sum =
        ap nat
        (kept-flow zeros first after-zeros (length net.nodes) (w + 1) (omega arith) zeros-width inputs t
        ∙ flow-append_last net.nodes (Constant (word (w + 1) 0)) inputs t)
        ∙ nat-word (w + 1) 0 some_power

    start-holds : 0 < divisor_at inputs t → Holds 0 (start w net) inputs t
    start-holds some =
        let b = divisor_at inputs t in
        record {
          rest = 0;
          quotient = (omega arith, some);
          sum =
              subst (λ c. IsSum c (bit_flow first.nodes inputs t (Of (length zero_bit.nodes) 0)) (2 ^ (w + 1)) b 0
              (nat (flow first.nodes inputs (length net.nodes) t))) (sym start-before)
              (subst (λ c. IsSum false c (2 ^ (w + 1)) b 0 (nat (flow first.nodes inputs (length net.nodes) t))) (sym start-last) start-sum);
          recurrence =
              subst (λ c. IsPartial b 0 0 c (partial_at net inputs t numerator v 0)) (sym start-last)
              (record { quotient = refl; remainder = refl });
        }

  start-stands : Stands 0 (start w net)
  start-stands = record {
    later = first-later;
    ready = start-ready;
    digits = All-nil (IsThere (widths first.nodes));
    count = refl;
    right = λ inputs t words some. start-holds inputs t some;
  }

  -- a step more
  module _ (k : ℕ) (d : Division) (before : k < length numerator) (h : Stands k d) where
    abbrev bit : WordBit
    bit = slice_index_or numerator k Zero

    bit-there : IsThere (widths net.nodes) bit
    bit-there = there k Zero before

    pub now-there : IsThere (widths d.net.nodes) bit
    now-there = grown-there net d.net h.later.grown bit bit-there

    pub divisor-now : IsDivisor d.net v
    divisor-now = record { some = is.some; few = is.few; wide = kept-width net d.net h.later v.node w is.some is.wide }

    abbrev next_division : Division
    next_division = stepped v d bit

    abbrev five : Net
    five = next_division.net

    next-after : Later d.net five
    next-after = step.five-later v d h.later.valid divisor-now h.ready bit now-there

    pub next-later : Later net five
    next-later = later-then net d.net five h.later next-after

    -- at a time
    module _ (inputs : Inputs) (t : ℤ) (words : AreFor inputs) (some : 0 < divisor_at inputs t) where
      abbrev b : ℕ
      b = divisor_at inputs t

      old : Holds k d inputs t
      old = h.right inputs t words some

      now : All (AreWords (input_widths d.net)) inputs
      now = words-later net d.net h.later inputs words

      abbrev p : Bool
      p = bit_flow d.net.nodes inputs t (Of d.before 0)

      abbrev l : Bool
      l = bit_flow d.net.nodes inputs t (Of d.last 0)

      abbrev a : Bool
      a = bit_at k inputs t

      abbrev sum : List Bool
      sum = step.sum v d h.later.valid divisor-now h.ready bit now-there inputs t now

      abbrev low : List Bool
      low = step.low v d h.later.valid divisor-now h.ready bit now-there inputs t now

      abbrev high : Bool
      high = step.high v d h.later.valid divisor-now h.ready bit now-there inputs t now

      abbrev negative : List Bool
      negative = step.rest v d h.later.valid divisor-now h.ready bit now-there inputs t now

      abbrev new_sum : List Bool
      new_sum = step.new_sum v d h.later.valid divisor-now h.ready bit now-there inputs t now

      abbrev new_high : Bool
      new_high = (step.new_top v d h.later.valid divisor-now h.ready bit now-there inputs t now).0

      small : b ≤ 2 ^ w
      small = omega (arith, divisor-below inputs t words)

      divisor-kept : nat (flow d.net.nodes inputs v.node t) ≡ b
      divisor-kept = ap nat (kept-flow net d.net h.later v.node w is.some is.wide inputs t)

      bit-kept_now : bit_flow d.net.nodes inputs t bit ≡ a
      bit-kept_now = bit-kept net.nodes d.net.nodes (grown-flow net d.net h.later.grown) inputs t bit bit-there

      digit-now : l ≡ digit_of p high
      digit-now =
          digit-is (2 ^ w) (2 ^ (w + 1)) b old.rest (nat sum) (nat low) double small old.quotient.1 (take-below w sum) p l high old.sum
          (step.old_sum-is v d h.later.valid divisor-now h.ready bit now-there inputs t now)

      negative-now : IsNegative l (2 ^ w) b old.rest (nat negative)
      negative-now =
          negative-is (2 ^ w) (2 ^ (w + 1)) b old.rest (nat sum) (nat low) double small old.quotient.1 (take-below w sum) p l high
          (nat negative) old.sum (step.old_sum-is v d h.later.valid divisor-now h.ready bit now-there inputs t now)
          (step.negative-zero v d h.later.valid divisor-now h.ready bit now-there inputs t now)
          (step.negative-one v d h.later.valid divisor-now h.ready bit now-there inputs t now)

      turned-now : step.turned v d h.later.valid divisor-now h.ready bit now-there inputs t now ≡ xor a l
      turned-now = turned-is (bit_flow d.net.nodes inputs t bit) p l high digit-now ∙ ap (λ c. xor c l) bit-kept_now

      carried : (c : ℕ) × (nat new_sum + 2 ^ (w + 1) * c ≡ b + (digit (xor a l) + 2 * nat negative))
      carried =
          let o = step.sum-total v d h.later.valid divisor-now h.ready bit now-there inputs t now in (
            o.0,
            o.1
                ∙ ap (λ m. m + (digit (step.turned v d h.later.valid divisor-now h.ready bit now-there inputs t now) + 2 * nat negative)) divisor-kept
                ∙ ap (λ c. b + (digit c + 2 * nat negative)) turned-now,
          )

      found : HasNext l (digit_of l new_high) a (2 ^ (w + 1)) b old.rest (nat new_sum)
      found =
          next (2 ^ w) (2 ^ (w + 1)) b old.rest (nat negative) (nat new_sum) (nat (take w new_sum)) double small old.quotient.1
          (take-below w new_sum) a l new_high carried.0 negative-now carried.1
          (step.new_sum-is v d h.later.valid divisor-now h.ready bit now-there inputs t now)

      abbrev new_digit : Bool
      new_digit = digit_of l new_high

      numerator-number : number_at net.nodes inputs t (take (suc k) numerator) ≡ 2 * number_at net.nodes inputs t (take k numerator) + digit a
      numerator-number =
          ap (number_at net.nodes inputs t) (take-suc numerator k Zero before) ∙ at-push net.nodes inputs t (take k numerator) bit

      abbrev q : ℕ
      q = number_at d.net.nodes inputs t d.digits

      digits-now : number_at five.nodes inputs t next_division.digits ≡ 2 * q + digit new_digit
      digits-now = step.digits-number v d h.later.valid divisor-now h.ready bit now-there inputs t now h.digits

      last-now : bit_flow five.nodes inputs t (Of next_division.last 0) ≡ new_digit
      last-now = step.last-after v d h.later.valid divisor-now h.ready bit now-there inputs t now

      before-now : bit_flow five.nodes inputs t (Of next_division.before 0) ≡ l
      before-now = step.before-after v d h.later.valid divisor-now h.ready bit now-there inputs t now

      sum-now : nat (flow five.nodes inputs next_division.sum t) ≡ nat new_sum
      sum-now = ap nat (step.sum-after v d h.later.valid divisor-now h.ready bit now-there inputs t now)

      next-holds : Holds (suc k) next_division inputs t
      next-holds = record {
        rest = found.rest;
        quotient =
            subst (λ m. IsQuotient m b (number_at five.nodes inputs t next_division.digits) found.rest) (sym numerator-number)
            (subst (λ m. IsQuotient (2 * number_at net.nodes inputs t (take k numerator) + digit a) b m found.rest) (sym digits-now)
            (next-quotient (number_at net.nodes inputs t (take k numerator)) b q old.rest found.rest a new_digit old.quotient found.below
            found.taken found.kept));
        sum =
            subst (λ c. IsSum c (bit_flow five.nodes inputs t (Of next_division.last 0)) (2 ^ (w + 1)) b found.rest
            (nat (flow five.nodes inputs next_division.sum t))) (sym before-now)
            (subst (λ c. IsSum l c (2 ^ (w + 1)) b found.rest (nat (flow five.nodes inputs next_division.sum t))) (sym last-now)
            (subst (IsSum l new_digit (2 ^ (w + 1)) b found.rest) (sym sum-now) found.sum));
        recurrence =
            subst (λ m. IsPartial b m found.rest (bit_flow five.nodes inputs t (Of next_division.last 0))
            (partial_at net inputs t numerator v (suc k))) (sym digits-now)
            (subst (λ c. IsPartial b (2 * q + digit new_digit) found.rest c (partial_at net inputs t numerator v (suc k))) (sym last-now)
            (next-partial b q old.rest old.quotient.1 (partial_at net inputs t numerator v k) a found.rest l new_digit old.recurrence
            found.taken found.kept));
      }

    pub next-stands : Stands (suc k) next_division
    next-stands = record {
      later = next-later;
      ready = step.ready-after v d h.later.valid divisor-now h.ready bit now-there;
      digits = step.digits-after v d h.later.valid divisor-now h.ready bit now-there h.digits;
      count = omega (arith, h.count, length-append d.digits (Of next_division.last 0 ∷ []));
      right = next-holds;
    }

  pub stands : (k : ℕ) → k ≤ length numerator → Stands k (after numerator v net k)
  stands zero h = start-stands
  stands (suc k) h = next-stands k (after numerator v net k) (omega (arith, h)) (stands k (omega (arith, h)))

  -- the net after some steps grows out of that after fewer
  pub later-by : (k j : ℕ) → k + j ≤ length numerator → Later (after numerator v net k).net (after numerator v net (k + j)).net
  later-by k zero h =
      let e : k ≡ k + 0 = omega arith in
      subst (λ m. Later (after numerator v net k).net (after numerator v net m).net) e
      (later-same (after numerator v net k).net (stands k (omega (arith, h))).later.valid)
  later-by k (suc j) h =
      let e : suc (k + j) ≡ k + suc j = omega arith in
      let one = next-after (k + j) (after numerator v net (k + j)) (omega (arith, h)) (stands (k + j) (omega (arith, h))) in
      let all =
      later-then (after numerator v net k).net (after numerator v net (k + j)).net (after numerator v net (suc (k + j))).net
      (later-by k j (omega (arith, h))) one in
      subst (λ m. Later (after numerator v net k).net (after numerator v net m).net) e all
