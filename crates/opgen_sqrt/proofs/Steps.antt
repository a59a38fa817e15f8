-- What stands after each step of a square root, and that the radicand's bits so far are the square of the root so far, and what is
-- left.
use Rattle.std.proofs.Common.{◌≡◌, ℕ, zero, suc, ◌+◌, ◌*◌, ◌%◌, ◌^◌, ◌<◌, ◌≤◌, Bool, true, false, List, [], ◌∷◌, ◌++◌, length, length-append, take, replicate, refl, sym, ap, ◌∙◌, subst, arith, nat_le, nat_lt}
use Rattle.std.specs.Prelude.{ℤ, All, slice_index, slice_index_or}
use Rattle.std.proofs.Math.Nat.{two-pow-succ}
use Rattle.std.proofs.Math.Seq.{take-suc}
use Rattle.std.proofs.lemmas.Bool.{lt-ltb, or_right}
use Rattle.std.proofs.lemmas.List.{length-replicate, append_assoc}
use Rattle.std.proofs.lemmas.List.Elements.{All-append, All-cons, All-nil}
use Rattle.opgen_num.specs.declared.format.TheConstants.{MAX_WIDTH}
use Rattle.opgen_num.specs.Words.{digit, nat}
use Rattle.opgen_num.proofs.Words.{digit-below}
use Rattle.opgen_design.specs.Run.{AreWords}
use Rattle.opgen_design.specs.Value.{IsWidth}
use Rattle.opgen_net.specs.declared.net.Net.{Net}
use Rattle.opgen_net.specs.declared.word_bits.WordBit.{WordBit}
use Rattle.opgen_net.specs.declared.word_bits.WordBit.TheVariants.{Zero, One, Of}
use Rattle.opgen_net.specs.Flow.{Inputs, flow}
use Rattle.opgen_net.specs.Valid.{widths, input_widths, IsValid}
use Rattle.opgen_net.specs.WordRule.{IsThere, bit_flow, bits_from}
use Rattle.opgen_net.proofs.Grown.{grown-flow, grown-width, grown-all_there}
use Rattle.opgen_kinds.specs.declared.single.Single.{Single}
use Rattle.opgen_kinds.specs.Single.{root_shift, root_width}
use Rattle.opgen_ports.specs.Reaches.{places_up}
use Rattle.opgen_net.specs.Placed.{number_at, with_bits}
use Rattle.opgen_digits.specs.Digit.{Known, with_difference, tried, left_of, AreOperands, HasDigit}
use Rattle.opgen_net.proofs.BitLists.{length-bits_from, bits_from-there, zeros-there, bit-kept}
use Rattle.opgen_net.proofs.Numbers.{at-below, at-push, at-zero, number-kept}
use Rattle.opgen_digits.proofs.Digit.{Tried, all-tried, has_digit}
use Rattle.opgen_net.proofs.Later.{Later, later-same, later-then, node_there, words-later}
use Rattle.opgen_digits.proofs.Outputs.{made-later, made-width, made-number}
use Rattle.opgen_sqrt.specs.Recipe.{with_input, shifted_width, radicand, minuend, subtrahend, stepped, keeps, after}
use Rattle.opgen_sqrt.specs.Steps.{IsRooted}
use Rattle.opgen_sqrt.proofs.Arithmetic.{next_digit, same_root, kept_rest, is_rooted}

-- the widths of an accepted single
pub record HasWidths (r : Single) : Type 0 where
  pub some : 1 ≤ r.input.width
  pub few_x : r.input.width ≤ MAX_WIDTH
  pub few : root_width r + 3 ≤ MAX_WIDTH

-- the bits of a subtrahend
pub taken-there : (ws : List ℕ) (known : List WordBit) → All (IsThere ws) known
    → All (IsThere ws) (Zero ∷ Zero ∷ (known ++ Zero ∷ One ∷ []))
taken-there ws known h =
    let P = IsThere ws in
    let taken : List WordBit = known ++ Zero ∷ One ∷ [] in
    let end : All P (Zero ∷ One ∷ []) = All-cons P Zero (One ∷ []) tt (All-cons P One [] tt (All-nil P)) in
    All-cons P Zero (Zero ∷ taken) tt (All-cons P Zero taken tt (All-append P known (Zero ∷ One ∷ []) h end))

-- a word of the bits of a minuend, and then one of those of a subtrahend
module _ (rest : ℕ) (net : Net) (given : List WordBit) (valid : IsValid net) (few : rest + 2 ≤ MAX_WIDTH) where
  module _ (long : length given ≡ rest + 2) (there : All (IsThere (widths net.nodes)) given) where
    abbrev first : Net
    first = (with_bits net given).net

    abbrev place : ℕ
    place = (with_bits net given).place

    first-wide : IsWidth (length given)
    first-wide = (omega (arith, long), omega (arith, long, few))

    pub first-later : Later net first
    first-later = made-later net valid given first-wide there

    pub operands-of : (taken : List WordBit) → 1 ≤ rest → length taken ≡ rest + 2 → All (IsThere (widths first.nodes)) taken
        → AreOperands rest (with_bits first taken).net place (with_bits first taken).place
    operands-of taken some same in_first =
        let wide : IsWidth (length taken) = (omega (arith, same), omega (arith, same, few)) in
        let grown = (made-later first first-later.valid taken wide in_first).grown in
        let wide_a : slice_index (widths first.nodes) place ≡ rest + 2 = made-width net valid given first-wide there ∙ long in
        let there_a = node_there first place (rest + 2) (omega arith) wide_a in
        record {
          some = some;
          few = few;
          wide_a = grown-width first (with_bits first taken).net grown place there_a ∙ wide_a;
          wide_b = made-width first first-later.valid taken wide in_first ∙ same;
        }

module _ (r : Single) (have : HasWidths r) where
  abbrev pub base : Net
  base = with_input r

  abbrev ws : List ℕ
  ws = widths base.nodes

  -- the bits of the radicand that are taken, at a time
  abbrev taken_at : (k : ℕ) → Inputs → ℤ → ℕ
  taken_at k inputs t = number_at base.nodes inputs t (take (2 * k) (radicand r))

  abbrev pub AreFor : Net → Inputs → Type 0
  AreFor net inputs = All (AreWords (input_widths net)) inputs

  pub input-valid : IsValid base
  input-valid = record { nodes = ((have.some, have.few_x), tt); inputs = refl; outputs = λ k d l. absurd (omega (arith, l)) }

  -- the radicand

  pub radicand-length : length (radicand r) ≡ 2 * root_width r
  radicand-length =
      let s = places_up (root_shift r) in
      let low : List WordBit = bits_from 0 0 r.input.width ++ replicate s Zero in
      let odd : List WordBit = replicate (shifted_width r % 2) Zero in
      omega (
        arith,
        length-append odd low,
        length-append (bits_from 0 0 r.input.width) (replicate s Zero),
        length-bits_from 0 0 r.input.width,
        length-replicate s Zero,
        length-replicate (shifted_width r % 2) Zero,
      )

  pub radicand-there : All (IsThere ws) (radicand r)
  radicand-there =
      let s = places_up (root_shift r) in
      let odd : List WordBit = replicate (shifted_width r % 2) Zero in
      let high = bits_from 0 0 r.input.width in
      let low : List WordBit = replicate s Zero in
      All-append (IsThere ws) odd (high ++ low) (zeros-there ws (shifted_width r % 2))
      (All-append (IsThere ws) high low (bits_from-there ws 0 0 r.input.width (omega arith)) (zeros-there ws s))

  -- what is left after a step that is not the last is kept
  pub keeps-before : (k : ℕ) → k < root_width r → keeps r k ≡ true
  keeps-before k h = or_right r.exact (nat_lt k (root_width r)) (lt-ltb k (root_width r) h)

  abbrev IsRootOf : (keep : Bool) → (k : ℕ) → Known → Inputs → ℤ → Type 0
  IsRootOf keep k known inputs t =
      let number = number_at known.net.nodes inputs t in
      IsRooted keep (taken_at k inputs t) (number known.digits) (number known.rest)

  -- what stands after some steps, and holds at each time
  pub record Stands (k : ℕ) (known : Known) : Type 0 where
    pub later : Later base known.net
    pub digits : All (IsThere (widths known.net.nodes)) known.digits
    pub count : length known.digits ≡ k
    pub rest : All (IsThere (widths known.net.nodes)) known.rest
    pub rest_count : keeps r k ≡ true → length known.rest ≡ k + 1
    pub right : (inputs : Inputs) (t : ℤ) → AreFor base inputs → IsRootOf (keeps r k) k known inputs t

  stands-first : Stands 0 (after r 0)
  stands-first = record {
    later = later-same base input-valid;
    digits = All-nil (IsThere ws);
    count = refl;
    rest = All-cons (IsThere ws) Zero [] tt (All-nil (IsThere ws));
    rest_count = λ _. refl;
    right = λ inputs t words. is_rooted (keeps r 0) 0 0 0 (refl, omega arith);
  }

  -- a step more
  module _ (k : ℕ) (known : Known) (before : k < root_width r) (s : Stands k known) where
    abbrev high : WordBit
    high = slice_index_or (radicand r) (2 * k) Zero

    abbrev low : WordBit
    low = slice_index_or (radicand r) (2 * k + 1) Zero

    pub within : 2 * k + 1 < length (radicand r)
    within = omega (arith, before, radicand-length)

    high-there : IsThere ws high
    high-there = radicand-there (2 * k) Zero (omega (arith, within))

    low-there : IsThere ws low
    low-there = radicand-there (2 * k + 1) Zero within

    few : (k + 2) + 2 ≤ MAX_WIDTH
    few = omega (arith, have.few, before)

    abbrev given : List WordBit
    given = known.rest ++ high ∷ low ∷ []

    abbrev sought : List WordBit
    sought = minuend known high low

    pub rest-length : length known.rest ≡ k + 1
    rest-length = s.rest_count (keeps-before k before)

    given-length : length given ≡ k + 3
    given-length = omega (arith, length-append known.rest (high ∷ low ∷ []), rest-length)

    minuend-wide : IsWidth (length sought)
    minuend-wide = (omega arith, omega (arith, given-length, have.few, before))

    pub minuend-there : All (IsThere (widths known.net.nodes)) sought
    minuend-there =
        let P = IsThere (widths known.net.nodes) in
        let Q = IsThere ws in
        let two : All Q (high ∷ low ∷ []) = All-cons Q high (low ∷ []) high-there (All-cons Q low [] low-there (All-nil Q)) in
        let both : All P (high ∷ low ∷ []) = grown-all_there base known.net s.later.grown (high ∷ low ∷ []) two in
        All-cons P Zero given tt (All-append P known.rest (high ∷ low ∷ []) s.rest both)

    abbrev raised : Net
    raised = (with_bits known.net sought).net

    abbrev a : ℕ
    a = (with_bits known.net sought).place

    raised-later : Later known.net raised
    raised-later = made-later known.net s.later.valid sought minuend-wide minuend-there

    a_there : a < length raised.nodes
    a_there =
        let wide : slice_index (widths raised.nodes) a ≡ length sought =
        made-width known.net s.later.valid sought minuend-wide minuend-there in
        node_there raised a (length sought) minuend-wide.0 wide

    digits-there : All (IsThere (widths raised.nodes)) known.digits
    digits-there = grown-all_there known.net raised raised-later.grown known.digits s.digits

    abbrev taken : List WordBit
    taken = known.digits ++ Zero ∷ One ∷ []

    abbrev less : List WordBit
    less = subtrahend known

    taken-length : length taken ≡ k + 2
    taken-length = omega (arith, length-append known.digits (Zero ∷ One ∷ []), s.count)

    subtrahend-wide : IsWidth (length less)
    subtrahend-wide = (omega arith, omega (arith, taken-length, have.few, before))

    subtrahend-there : All (IsThere (widths raised.nodes)) less
    subtrahend-there = taken-there (widths raised.nodes) known.digits digits-there

    abbrev both : Net
    both = (with_bits raised less).net

    abbrev b : ℕ
    b = (with_bits raised less).place

    both-later : Later raised both
    both-later = made-later raised raised-later.valid less subtrahend-wide subtrahend-there

    operands : AreOperands (k + 2) both a b
    operands =
        let long : length sought ≡ (k + 2) + 2 = omega (arith, given-length) in
        let same : length less ≡ (k + 2) + 2 = omega (arith, taken-length) in
        operands-of (k + 2) known.net sought s.later.valid few long minuend-there less (omega arith) same subtrahend-there

    digits-still : All (IsThere (widths both.nodes)) known.digits
    digits-still = grown-all_there raised both both-later.grown known.digits digits-there

    abbrev next : Known
    next = stepped (keeps r (suc k)) (k + 2) known high low

    done : Tried (k + 2) both a b both-later.valid operands (keeps r (suc k)) known.digits next
    done = all-tried (k + 2) both a b both-later.valid operands (keeps r (suc k)) known.digits digits-still

    -- at a time
    module _ (inputs : Inputs) (t : ℤ) (words : AreFor base inputs) where
      abbrev n : ℕ
      n = taken_at k inputs t

      abbrev d : ℕ
      d = 2 * digit (bit_flow base.nodes inputs t high) + digit (bit_flow base.nodes inputs t low)

      abbrev in_known : List WordBit → ℕ
      in_known = number_at known.net.nodes inputs t

      abbrev y : ℕ
      y = in_known known.digits

      abbrev left : ℕ
      left = in_known known.rest

      abbrev x : ℕ
      x = nat (flow both.nodes inputs a t)

      abbrev z : ℕ
      z = nat (flow both.nodes inputs b t)

      words_known : AreFor known.net inputs
      words_known = words-later base known.net s.later inputs words

      words_raised : AreFor raised inputs
      words_raised = words-later known.net raised raised-later inputs words_known

      two-more : (bits : List WordBit) → in_known (bits ++ high ∷ low ∷ []) ≡ 4 * in_known bits + d
      two-more bits =
          let nodes = known.net.nodes in
          let still = grown-flow base known.net s.later.grown in
          let of_high = bit-kept base.nodes nodes still inputs t high high-there in
          let of_low = bit-kept base.nodes nodes still inputs t low low-there in
          let first = at-push nodes inputs t bits high in
          let second = at-push nodes inputs t (bits ++ high ∷ []) low in
          ap in_known (sym (append_assoc bits (high ∷ []) (low ∷ []))) ∙ omega (arith, second, first, ap digit of_high, ap digit of_low)

      given-number : nat (flow raised.nodes inputs a t) ≡ in_known given
      given-number =
          made-number known.net s.later.valid sought minuend-wide minuend-there inputs t words_known
          ∙ at-zero known.net.nodes inputs t given

      a-kept : x ≡ in_known given
      a-kept = ap nat (grown-flow raised both both-later.grown inputs a t a_there) ∙ given-number

      minuend-number : x ≡ 4 * left + d
      minuend-number = a-kept ∙ two-more known.rest

      minuend-low : x < 2 ^ (k + 2 + 1)
      minuend-low =
          let e : length given ≡ k + 2 + 1 = omega (arith, given-length) in
          omega (arith, a-kept, subst (λ m. in_known given < 2 ^ m) e (at-below known.net.nodes inputs t given))

      digits-raised : number_at raised.nodes inputs t known.digits ≡ y
      digits-raised =
          number-kept known.net.nodes raised.nodes (grown-flow known.net raised raised-later.grown) inputs t known.digits s.digits

      taken-number : number_at raised.nodes inputs t taken ≡ 4 * y + 1
      taken-number =
          let first = at-push raised.nodes inputs t known.digits Zero in
          let second = at-push raised.nodes inputs t (known.digits ++ Zero ∷ []) One in
          ap (number_at raised.nodes inputs t) (sym (append_assoc known.digits (Zero ∷ []) (One ∷ [])))
          ∙ omega (arith, second, first, digits-raised)

      subtrahend-number : z ≡ 4 * y + 1
      subtrahend-number =
          made-number raised raised-later.valid less subtrahend-wide subtrahend-there inputs t words_raised
          ∙ at-zero raised.nodes inputs t (Zero ∷ taken)
          ∙ at-zero raised.nodes inputs t taken
          ∙ taken-number

      double : (m : ℕ) → 2 ^ (m + 1) ≡ 2 ^ m + 2 ^ m
      double m = let e : m + 1 ≡ suc m = omega arith in ap (λ i. 2 ^ i) e ∙ two-pow-succ m

      -- four times the root so far has as many bits as what is left
      root-low : 4 * y + 2 < 2 ^ (k + 2)
      root-low =
          let below = subst (λ m. y < 2 ^ m) s.count (at-below known.net.nodes inputs t known.digits) in
          let e : k + 2 ≡ k + 1 + 1 = omega arith in
          omega (arith, below, double k, double (k + 1), ap (λ m. 2 ^ m) e)

      subtrahend-low : z < 2 ^ (k + 2 + 1)
      subtrahend-low = omega (arith, double (k + 2), subtrahend-number, root-low)

      facts : HasDigit (keeps r (suc k)) (k + 2) x z (number_at both.nodes inputs t known.digits) next inputs t
      facts =
          has_digit (k + 2) both a b both-later.valid operands inputs t (words-later raised both both-later inputs words_raised) minuend-low
          subtrahend-low (keeps r (suc k)) known.digits digits-still

      radicand-number : taken_at (suc k) inputs t ≡ 4 * n + d
      radicand-number =
          let e : 2 * suc k ≡ suc (2 * k + 1) = omega arith in
          let f : 2 * k + 1 ≡ suc (2 * k) = omega arith in
          let nodes = base.nodes in
          let taken_before = take (2 * k) (radicand r) in
          let one : take (2 * k + 1) (radicand r) ≡ taken_before ++ high ∷ [] =
          ap (λ m. take m (radicand r)) f ∙ take-suc (radicand r) (2 * k) Zero (omega (arith, within)) in
          let all : take (2 * suc k) (radicand r) ≡ (taken_before ++ high ∷ []) ++ low ∷ [] =
          ap (λ m. take m (radicand r)) e ∙ take-suc (radicand r) (2 * k + 1) Zero within ∙ ap (λ bits. bits ++ low ∷ []) one in
          ap (number_at nodes inputs t) all
          ∙ omega (arith, at-push nodes inputs t (taken_before ++ high ∷ []) low, at-push nodes inputs t taken_before high)

      digits-number : number_at next.net.nodes inputs t next.digits ≡ 2 * y + digit (nat_le z x)
      digits-number =
          let same = number-kept raised.nodes both.nodes (grown-flow raised both both-later.grown) inputs t known.digits digits-there in
          facts.digit ∙ ap (λ m. 2 * m + digit (nat_le z x)) (same ∙ digits-raised)

      rooted : (keep : Bool) → keep ≡ keeps r (suc k) → IsRootOf keep (suc k) next inputs t
      rooted keep is =
          let held = kept_rest (keeps r k) n y left (keeps-before k before) (s.right inputs t words) in
          let small_high = digit-below (bit_flow base.nodes inputs t high) in
          let small : d < 4 = omega (arith, small_high, digit-below (bit_flow base.nodes inputs t low)) in
          let new = next_digit (k + 2) n y left d x z held small root-low minuend-number subtrahend-number in
          with_rest keep is (same_root _ _ _ _ _ _ (sym radicand-number) (sym digits-number) refl new)
        where
          with_rest : (keep : Bool) → keep ≡ keeps r (suc k)
              → IsRooted true (taken_at (suc k) inputs t) (number_at next.net.nodes inputs t next.digits) (left_of x z % 2 ^ (k + 2))
              → IsRootOf keep (suc k) next inputs t
          with_rest false is new = (left_of x z % 2 ^ (k + 2), new)
          with_rest true is new = same_root _ _ _ _ _ _ refl refl (sym (facts.left (sym is))) new

    next-later : Later known.net next.net
    next-later = later-then known.net both next.net (later-then known.net raised both raised-later both-later) done.later

    stands-next : Stands (suc k) next
    stands-next = record {
      later = later-then base known.net next.net s.later next-later;
      digits = done.digits_there;
      count = counted (keeps r (suc k));
      rest = done.rest_there;
      rest_count = λ e. done.rest_length e ∙ omega arith;
      right = λ inputs t words. rooted inputs t words (keeps r (suc k)) refl;
    }
      where
        counted : (keep : Bool) → length (tried keep (k + 2) both a b known.digits).digits ≡ suc k
        counted true = omega (arith, s.count, length-append known.digits (Of (length (with_difference (k + 2) both a b).nodes) 0 ∷ []))
        counted false = omega (arith, s.count, length-append known.digits (Of (length (with_difference (k + 2) both a b).nodes) 0 ∷ []))

  pub stands : (k : ℕ) → k ≤ root_width r → Stands k (after r k)
  stands zero h = stands-first
  stands (suc k) h = stands-next k (after r k) (omega (arith, h)) (stands k (omega (arith, h)))

  -- a net after some steps grows out of that after fewer
  pub later-by : (k j : ℕ) → k + j ≤ root_width r → Later (after r k).net (after r (k + j)).net
  later-by k zero h =
      let e : k ≡ k + 0 = omega arith in
      subst (λ m. Later (after r k).net (after r m).net) e (later-same (after r k).net (stands k (omega (arith, h))).later.valid)
  later-by k (suc j) h =
      let e : suc (k + j) ≡ k + suc j = omega arith in
      let one = next-later (k + j) (after r (k + j)) (omega (arith, h)) (stands (k + j) (omega (arith, h))) in
      let all = later-then (after r k).net (after r (k + j)).net (after r (suc (k + j))).net (later-by k j (omega (arith, h))) one in
      subst (λ m. Later (after r k).net (after r m).net) e all
