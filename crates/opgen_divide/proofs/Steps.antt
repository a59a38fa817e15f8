-- What stands after each step of a division, and that the numerator's bits so far are the quotient so far times the divisor, and
-- what is left.
use Rattle.std.proofs.Common.{◌≡◌, ℕ, zero, suc, ◌+◌, ◌*◌, ◌%◌, ◌^◌, ◌<◌, ◌≤◌, Bool, true, false, List, [], ◌∷◌, ◌++◌, length, length-append, take, replicate, refl, sym, ap, ◌∙◌, subst, arith, nat_le, nat_lt}
use Rattle.std.specs.Prelude.{ℤ, All, slice_index, slice_index_or}
use Rattle.std.proofs.Math.Nat.{two-pow-succ}
use Rattle.std.proofs.Math.Seq.{take-suc}
use Rattle.std.proofs.lemmas.Bool.{lt-ltb, or_right}
use Rattle.std.proofs.lemmas.List.{length-replicate}
use Rattle.std.proofs.lemmas.List.Elements.{All-append, All-cons, All-nil}
use Rattle.opgen_num.specs.declared.format.TheConstants.{MAX_WIDTH}
use Rattle.opgen_num.specs.Words.{digit, nat}
use Rattle.opgen_num.proofs.Words.{digit-below, nat-below}
use Rattle.opgen_design.specs.Value.{IsWidth}
use Rattle.opgen_net.specs.declared.net.Net.{Net}
use Rattle.opgen_net.specs.declared.word_bits.WordBit.{WordBit}
use Rattle.opgen_net.specs.declared.word_bits.WordBit.TheVariants.{Zero, Of}
use Rattle.opgen_net.specs.Flow.{Inputs, flow}
use Rattle.opgen_net.specs.Grown.{HasGrown}
use Rattle.opgen_net.specs.Valid.{widths, IsValid}
use Rattle.opgen_net.specs.WordRule.{IsThere, bit_flow, bits_from}
use Rattle.opgen_net.proofs.FlowWidths.{flow-width}
use Rattle.opgen_net.proofs.Grown.{grown-same, grown-flow, grown-width, grown-all_there, grown-then}
use Rattle.opgen_kinds.specs.declared.pair.Pair.{Pair}
use Rattle.opgen_kinds.specs.Pair.{pair_shift}
use Rattle.opgen_ports.specs.Reaches.{places_up}
use Rattle.opgen_net.specs.Placed.{number_at, with_bits}
use Rattle.opgen_digits.specs.Digit.{Known, with_difference, tried, left_of, AreOperands, HasDigit}
use Rattle.opgen_net.proofs.BitLists.{length-bits_from, bits_from-there, zeros-there, bit-kept}
use Rattle.opgen_net.proofs.Numbers.{at-below, at-push, at-zero, at-zeros, at-node, number-kept}
use Rattle.opgen_digits.proofs.Digit.{Tried, all-tried, has_digit}
use Rattle.opgen_net.proofs.Later.{Later, later-same, later-then, node_there, words-later}
use Rattle.opgen_digits.proofs.Outputs.{made-later, made-width, made-number}
use Rattle.opgen_divide.specs.Recipe.{with_magnitudes, numerator, digit_count, with_divisor, minuend, stepped, keeps, after}
use Rattle.opgen_divide.specs.Steps.{IsDivided}
use Rattle.opgen_divide.proofs.Absolutes.{HasWidths, AreFor, are_magnitudes}
use Rattle.opgen_divide.proofs.Arithmetic.{next_digit, same_quotient, kept_rest, is_divided}

-- a word of the bits of a minuend, beside a divisor of its width
pub operands-of : (w : ℕ) (net : Net) (given : List WordBit) (place : ℕ) → IsValid net → 1 ≤ w → w + 2 ≤ MAX_WIDTH
    → length given ≡ w + 2 → All (IsThere (widths net.nodes)) given → slice_index (widths net.nodes) place ≡ w + 2
    → AreOperands w (with_bits net given).net (with_bits net given).place place
operands-of w net given place valid some few long there h =
    let wide : IsWidth (length given) = (omega (arith, long), omega (arith, long, few)) in
    let grown = (made-later net valid given wide there).grown in
    record {
      some = some;
      few = few;
      wide_a = made-width net valid given wide there ∙ long;
      wide_b = grown-width net (with_bits net given).net grown place (node_there net place (w + 2) (omega arith) h) ∙ h;
    }

module _ (p : Pair) (have : HasWidths p) where
  abbrev w : ℕ
  w = p.b.width

  abbrev pub base : Net
  base = (with_magnitudes p).net

  abbrev a_node : ℕ
  a_node = (with_magnitudes p).dividend

  abbrev b_node : ℕ
  b_node = (with_magnitudes p).divisor

  -- at a time: the divisor, and the bits of the numerator that are taken
  abbrev pub divisor_at : Inputs → ℤ → ℕ
  divisor_at inputs t = nat (flow base.nodes inputs b_node t)

  abbrev taken_at : (k : ℕ) → Inputs → ℤ → ℕ
  taken_at k inputs t = number_at base.nodes inputs t (take k (numerator p))

  pub base-valid : IsValid base
  base-valid = (are_magnitudes p have).later.valid

  divisor-length : (inputs : Inputs) (t : ℤ) → AreFor p have base inputs → length (flow base.nodes inputs b_node t) ≡ w
  divisor-length inputs t words = flow-width base base-valid inputs words b_node t ∙ (are_magnitudes p have).divisor

  pub dividend-there : a_node < length base.nodes
  dividend-there = node_there base a_node p.a.width have.some_a (are_magnitudes p have).dividend

  pub divisor-there : b_node < length base.nodes
  divisor-there = node_there base b_node w have.some_b (are_magnitudes p have).divisor

  abbrev bits : List WordBit
  bits = Zero ∷ Zero ∷ bits_from b_node 0 w

  bits-length : length bits ≡ w + 2
  bits-length = omega (arith, length-bits_from b_node 0 w)

  pub bits-wide : IsWidth (length bits)
  bits-wide = (omega arith, omega (arith, bits-length, have.few_b))

  pub bits-there : All (IsThere (widths base.nodes)) bits
  bits-there =
      let P = IsThere (widths base.nodes) in
      let low = bits_from-there (widths base.nodes) b_node 0 w (omega (arith, (are_magnitudes p have).divisor)) in
      All-cons P Zero (Zero ∷ bits_from b_node 0 w) tt (All-cons P Zero (bits_from b_node 0 w) tt low)

  abbrev first : Net
  first = (with_divisor p).net

  abbrev place : ℕ
  place = (with_divisor p).place

  pub first-later : Later base first
  first-later = made-later base base-valid bits bits-wide bits-there

  pub divisor-width : slice_index (widths first.nodes) place ≡ w + 2
  divisor-width = made-width base base-valid bits bits-wide bits-there ∙ bits-length

  first_there : place < length first.nodes
  first_there = node_there first place (w + 2) (omega arith) divisor-width

  -- it has the number of the divisor
  divisor-number : (inputs : Inputs) (t : ℤ) → AreFor p have base inputs → nat (flow first.nodes inputs place t) ≡ divisor_at inputs t
  divisor-number inputs t words =
      made-number base base-valid bits bits-wide bits-there inputs t words
      ∙ at-zero base.nodes inputs t (Zero ∷ bits_from b_node 0 w)
      ∙ at-zero base.nodes inputs t (bits_from b_node 0 w)
      ∙ at-node base.nodes inputs t b_node w (divisor-length inputs t words)

  -- the numerator

  pub numerator-length : length (numerator p) ≡ digit_count p
  numerator-length =
      let s = places_up (pair_shift p) in
      omega (arith, length-append (bits_from a_node 0 p.a.width) (replicate s Zero), length-bits_from a_node 0 p.a.width, length-replicate s Zero)

  pub numerator-there : All (IsThere (widths base.nodes)) (numerator p)
  numerator-there =
      let s = places_up (pair_shift p) in
      let ws = widths base.nodes in
      All-append (IsThere ws) (bits_from a_node 0 p.a.width) (replicate s Zero)
      (bits_from-there ws a_node 0 p.a.width (omega (arith, (are_magnitudes p have).dividend)))
      (zeros-there ws s)

  -- what is left after a step that is not the last is kept
  pub keeps-before : (k : ℕ) → k < digit_count p → keeps p k ≡ true
  keeps-before k h = or_right p.exact (nat_lt k (digit_count p)) (lt-ltb k (digit_count p) h)

  abbrev Divides : (keep : Bool) → (k : ℕ) → Known → Inputs → ℤ → Type 0
  Divides keep k known inputs t =
      let number = number_at known.net.nodes inputs t in
      IsDivided keep (taken_at k inputs t) (divisor_at inputs t) (number known.digits) (number known.rest)

  -- what stands after some steps, and holds at each time
  pub record Stands (k : ℕ) (known : Known) : Type 0 where
    pub later : Later base known.net
    pub since : HasGrown first known.net
    pub digits : All (IsThere (widths known.net.nodes)) known.digits
    pub count : length known.digits ≡ k
    pub rest : All (IsThere (widths known.net.nodes)) known.rest
    pub rest_count : keeps p k ≡ true → length known.rest ≡ w
    pub right : (inputs : Inputs) (t : ℤ) → AreFor p have base inputs → 0 < divisor_at inputs t → Divides (keeps p k) k known inputs t

  stands-first : Stands 0 (after p 0)
  stands-first = record {
    later = first-later;
    since = grown-same first;
    digits = All-nil (IsThere (widths first.nodes));
    count = refl;
    rest = zeros-there (widths first.nodes) w;
    rest_count = λ _. length-replicate w Zero;
    right = λ inputs t words some.
        let left = number_at first.nodes inputs t (replicate w Zero) in
        let nothing : left ≡ 0 = at-zeros first.nodes inputs t w in
        is_divided (keeps p 0) 0 (divisor_at inputs t) 0 left (omega (arith, nothing), omega (arith, nothing, some));
  }

  -- a step more
  module _ (k : ℕ) (known : Known) (before : k < digit_count p) (s : Stands k known) where
    abbrev bit : WordBit
    bit = slice_index_or (numerator p) k Zero

    within : k < length (numerator p)
    within = omega (arith, before, numerator-length)

    bit-there : IsThere (widths base.nodes) bit
    bit-there = numerator-there k Zero within

    abbrev given : List WordBit
    given = known.rest ++ bit ∷ []

    abbrev sought : List WordBit
    sought = minuend known bit

    given-length : length given ≡ w + 1
    given-length = omega (arith, length-append known.rest (bit ∷ []), s.rest_count (keeps-before k before))

    minuend-wide : IsWidth (length sought)
    minuend-wide = (omega arith, omega (arith, given-length, have.few_b))

    pub minuend-there : All (IsThere (widths known.net.nodes)) sought
    minuend-there =
        let P = IsThere (widths known.net.nodes) in
        let Q = IsThere (widths base.nodes) in
        let one : All P (bit ∷ []) = grown-all_there base known.net s.later.grown (bit ∷ []) (All-cons Q bit [] bit-there (All-nil Q)) in
        All-cons P Zero given tt (All-append P known.rest (bit ∷ []) s.rest one)

    abbrev raised : Net
    raised = (with_bits known.net sought).net

    abbrev a : ℕ
    a = (with_bits known.net sought).place

    raised-later : Later known.net raised
    raised-later = made-later known.net s.later.valid sought minuend-wide minuend-there

    pub place-width : slice_index (widths known.net.nodes) place ≡ w + 2
    place-width = grown-width first known.net s.since place first_there ∙ divisor-width

    place_there : place < length known.net.nodes
    place_there = node_there known.net place (w + 2) (omega arith) place-width

    operands : AreOperands w raised a place
    operands =
        let long : length sought ≡ w + 2 = omega (arith, given-length) in
        operands-of w known.net sought place s.later.valid have.some_b have.few_b long minuend-there place-width

    digits-there : All (IsThere (widths raised.nodes)) known.digits
    digits-there = grown-all_there known.net raised raised-later.grown known.digits s.digits

    abbrev next : Known
    next = stepped (keeps p (suc k)) w place known bit

    done : Tried w raised a place raised-later.valid operands (keeps p (suc k)) known.digits next
    done = all-tried w raised a place raised-later.valid operands (keeps p (suc k)) known.digits digits-there

    -- at a time
    module _ (inputs : Inputs) (t : ℤ) (words : AreFor p have base inputs) where
      abbrev b : ℕ
      b = divisor_at inputs t

      abbrev n : ℕ
      n = taken_at k inputs t

      abbrev d : ℕ
      d = digit (bit_flow base.nodes inputs t bit)

      abbrev q : ℕ
      q = number_at known.net.nodes inputs t known.digits

      abbrev r : ℕ
      r = number_at known.net.nodes inputs t known.rest

      abbrev x : ℕ
      x = nat (flow raised.nodes inputs a t)

      abbrev y : ℕ
      y = nat (flow raised.nodes inputs place t)

      words_known : AreFor p have known.net inputs
      words_known = words-later base known.net s.later inputs words

      given-number : x ≡ number_at known.net.nodes inputs t given
      given-number =
          made-number known.net s.later.valid sought minuend-wide minuend-there inputs t words_known
          ∙ at-zero known.net.nodes inputs t given

      minuend-number : x ≡ 2 * r + d
      minuend-number =
          let same = bit-kept base.nodes known.net.nodes (grown-flow base known.net s.later.grown) inputs t bit bit-there in
          given-number ∙ at-push known.net.nodes inputs t known.rest bit ∙ ap (λ (c : Bool). 2 * r + digit c) same

      minuend-low : x < 2 ^ (w + 1)
      minuend-low =
          let low = at-below known.net.nodes inputs t given in
          omega (arith, given-number, subst (λ m. number_at known.net.nodes inputs t given < 2 ^ m) given-length low)

      divisor-kept : y ≡ b
      divisor-kept =
          ap nat (grown-flow known.net raised raised-later.grown inputs place t place_there)
          ∙ ap nat (grown-flow first known.net s.since inputs place t first_there)
          ∙ divisor-number inputs t words

      b-low : b < 2 ^ w
      b-low =
          let word = flow base.nodes inputs b_node t in
          subst (λ m. nat word < 2 ^ m) (divisor-length inputs t words) (nat-below word)

      divisor-low : y < 2 ^ (w + 1)
      divisor-low =
          let e : w + 1 ≡ suc w = omega arith in
          omega (arith, divisor-kept, b-low, ap (λ m. 2 ^ m) e, two-pow-succ w)

      facts : HasDigit (keeps p (suc k)) w x y (number_at raised.nodes inputs t known.digits) next inputs t
      facts =
          has_digit w raised a place raised-later.valid operands inputs t (words-later known.net raised raised-later inputs words_known)
          minuend-low divisor-low (keeps p (suc k)) known.digits digits-there

      numerator-number : taken_at (suc k) inputs t ≡ 2 * n + d
      numerator-number =
          ap (number_at base.nodes inputs t) (take-suc (numerator p) k Zero within) ∙ at-push base.nodes inputs t (take k (numerator p)) bit

      digits-number : number_at next.net.nodes inputs t next.digits ≡ 2 * q + digit (nat_le b x)
      digits-number =
          let same =
          number-kept known.net.nodes raised.nodes (grown-flow known.net raised raised-later.grown) inputs t known.digits s.digits in
          facts.digit ∙ ap (λ m. 2 * m + digit (nat_le y x)) same ∙ ap (λ m. 2 * q + digit (nat_le m x)) divisor-kept

      divided : 0 < b → (keep : Bool) → keep ≡ keeps p (suc k) → Divides keep (suc k) next inputs t
      divided some keep is =
          let held = kept_rest (keeps p k) n b q r (keeps-before k before) (s.right inputs t words some) in
          let new = next_digit w n b q r d x held (digit-below (bit_flow base.nodes inputs t bit)) b-low minuend-number in
          with_rest keep is (same_quotient _ b _ _ _ b _ _ (sym numerator-number) refl (sym digits-number) refl new)
        where
          with_rest : (keep : Bool) → keep ≡ keeps p (suc k)
              → IsDivided true (taken_at (suc k) inputs t) b (number_at next.net.nodes inputs t next.digits) (left_of x b % 2 ^ w)
              → Divides keep (suc k) next inputs t
          with_rest false is new = (left_of x b % 2 ^ w, new)
          with_rest true is new =
              let left = facts.left (sym is) ∙ ap (λ m. left_of x m % 2 ^ w) divisor-kept in
              same_quotient _ b _ _ _ b _ _ refl refl refl (sym left) new

    next-later : Later known.net next.net
    next-later = later-then known.net raised next.net raised-later done.later

    stands-next : Stands (suc k) next
    stands-next = record {
      later = later-then base known.net next.net s.later next-later;
      since = grown-then first known.net next.net s.since next-later.grown;
      digits = done.digits_there;
      count = counted (keeps p (suc k));
      rest = done.rest_there;
      rest_count = done.rest_length;
      right = λ inputs t words some. divided inputs t words some (keeps p (suc k)) refl;
    }
      where
        counted : (keep : Bool) → length (tried keep w raised a place known.digits).digits ≡ suc k
        counted true = omega (arith, s.count, length-append known.digits (Of (length (with_difference w raised a place).nodes) 0 ∷ []))
        counted false = omega (arith, s.count, length-append known.digits (Of (length (with_difference w raised a place).nodes) 0 ∷ []))

  pub stands : (k : ℕ) → k ≤ digit_count p → Stands k (after p k)
  stands zero h = stands-first
  stands (suc k) h = stands-next k (after p k) (omega (arith, h)) (stands k (omega (arith, h)))

  -- a net after some steps grows out of that after fewer
  pub later-by : (k j : ℕ) → k + j ≤ digit_count p → Later (after p k).net (after p (k + j)).net
  later-by k zero h =
      let e : k ≡ k + 0 = omega arith in
      subst (λ m. Later (after p k).net (after p m).net) e (later-same (after p k).net (stands k (omega (arith, h))).later.valid)
  later-by k (suc j) h =
      let e : suc (k + j) ≡ k + suc j = omega arith in
      let one = next-later (k + j) (after p (k + j)) (omega (arith, h)) (stands (k + j) (omega (arith, h))) in
      let all = later-then (after p k).net (after p (k + j)).net (after p (suc (k + j))).net (later-by k j (omega (arith, h))) one in
      subst (λ m. Later (after p k).net (after p m).net) e all
