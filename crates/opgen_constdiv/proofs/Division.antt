-- What stands after each digit of a division, and that the digits so far are the quotient so far times the divisor and a remainder.
use Rattle.std.proofs.Common.{◌≡◌, ℕ, zero, suc, ◌+◌, ◌-◌, ◌*◌, ◌/◌, ◌%◌, ◌^◌, ◌<◌, ◌≤◌, List, [], ◌∷◌, ◌++◌, length, length-append, take, drop, replicate, refl, sym, ap, ◌∙◌, subst, arith}
use Rattle.std.specs.Prelude.{ℤ, All, slice_index, slice_index_or}
use Rattle.std.proofs.Math.Nat.{mod-eq_of_lt, mul-le-mul_left}
use Rattle.std.proofs.lemmas.List.{length-replicate, length-take, length-drop}
use Rattle.std.proofs.lemmas.List.Elements.{All-append, All-nil, All-take, All-drop}
use Rattle.std.proofs.lemmas.Nat.{div-add-mod', div-mul-add, mod-mul-add, mod_below}
use Rattle.opgen_num.specs.Rounding.{IsQuotient}
use Rattle.opgen_num.specs.Words.{nat, word}
use Rattle.opgen_num.specs.WordLaws.{nat-word, length-word}
use Rattle.opgen_num.proofs.Cuts.{nat-take, nat-drop}
use Rattle.opgen_design.specs.Run.{AreWords}
use Rattle.opgen_design.specs.Value.{IsWidth}
use Rattle.opgen_net.specs.declared.net.Net.{Net}
use Rattle.opgen_net.specs.declared.node.Node.{Node}
use Rattle.opgen_net.specs.declared.node.Node.TheVariants.{Table}
use Rattle.opgen_net.specs.declared.word_bits.WordBit.{WordBit}
use Rattle.opgen_net.specs.declared.word_bits.WordBit.TheVariants.{Zero}
use Rattle.opgen_net.specs.Flow.{Inputs, flow}
use Rattle.opgen_net.specs.Placed.{number_at, with_bits}
use Rattle.opgen_net.specs.Valid.{widths, input_widths, IsValid, FitsTable}
use Rattle.opgen_net.specs.WordRule.{IsThere, bits_from}
use Rattle.opgen_net.proofs.Appending.{flow-append_last, width-append_last}
use Rattle.opgen_net.proofs.BitLists.{length-bits_from, bits_from-there, bits_from-flow, zeros-there}
use Rattle.opgen_net.proofs.Grown.{grown-flow, grown-all_there}
use Rattle.opgen_net.proofs.Later.{Later, later-same, later-then, later-node, bits-later, words-later}
use Rattle.opgen_net.proofs.Numbers.{at-append, at-below, at-zeros, number-kept}
use Rattle.opgen_net.proofs.WordLaws.{word-found_width, word-has_bits}
use Rattle.opgen_constdiv.specs.Rows.{IsSmall, rest_width, digit_width, row, rows}
use Rattle.opgen_constdiv.specs.Recipe.{with_input, digit_number, dividend, digit_bits, Divided, divided, after}
use Rattle.opgen_constdiv.specs.Steps.{IsInput}
use Rattle.opgen_constdiv.proofs.TableRows.{rest-few, six-bits, digit-some, rest-room, both-room, quotient-room, row-is, rest-below, row-below, row-at, table-fits, next_digit, address-below}

take-none : (n : ℕ) → take {A = WordBit} n [] ≡ []
take-none zero = refl
take-none (suc n) = refl

-- the first bits of a list, and so many after them
take-more : (bits : List WordBit) (m n : ℕ) → take (m + n) bits ≡ take m bits ++ take n (drop m bits)
take-more bits zero n = ap (λ k. take k bits) (omega arith)
take-more [] (suc m) n = take-none (suc m + n) ∙ sym (take-none n)
take-more (b ∷ bits) (suc m) n =
    let e : suc m + n ≡ suc (m + n) = omega arith in
    ap (λ k. take k (b ∷ bits)) e ∙ ap (λ l. b ∷ l) (take-more bits m n)

module _ (w c : ℕ) (input : IsInput w) (small : IsSmall c) where
  abbrev a : ℕ
  a = digit_width c

  abbrev pub base : Net
  base = with_input w

  abbrev pub AreFor : Net → Inputs → Type 0
  AreFor net inputs = All (AreWords (input_widths net)) inputs

  pub input-valid : IsValid base
  input-valid = record { nodes = ((input.some, omega (arith, input.few)), tt); inputs = refl; outputs = λ k d l. absurd (omega (arith, l)) }

  -- the digits have all bits of the input
  pub digits-enough : w ≤ digit_number w c * a
  digits-enough =
      let n = w + (a - 1) in
      let rest : n % a < a = mod_below n a (omega (arith, digit-some c small)) in
      omega (arith, div-add-mod' n a, rest, digit-some c small)

  pub dividend-length : length (dividend w c) ≡ digit_number w c * a
  dividend-length =
      let zeros = digit_number w c * a - w in
      omega (
        arith,
        length-append (replicate zeros Zero) (bits_from 0 0 w),
        length-replicate zeros Zero,
        length-bits_from 0 0 w,
        digits-enough,
      )

  pub dividend-there : All (IsThere (widths base.nodes)) (dividend w c)
  dividend-there =
      let P = IsThere (widths base.nodes) in
      let zeros = digit_number w c * a - w in
      All-append P (replicate zeros Zero) (bits_from 0 0 w) (zeros-there (widths base.nodes) zeros)
      (bits_from-there (widths base.nodes) 0 0 w (omega arith))

  -- the digits so far, at a time
  abbrev taken_at : (k : ℕ) → Inputs → ℤ → ℕ
  taken_at k inputs t = number_at base.nodes inputs t (take (k * a) (dividend w c))

  -- what stands after some digits, and holds at each time
  pub record Stands (k : ℕ) (d : Divided) : Type 0 where
    pub later : Later base d.net
    pub quotient : All (IsThere (widths d.net.nodes)) d.quotient
    pub count : length d.quotient ≡ k * a
    pub rest : All (IsThere (widths d.net.nodes)) d.rest
    pub rest_count : length d.rest ≡ rest_width c
    pub last : 1 ≤ k → (slice_index (widths d.net.nodes) d.table ≡ 6) × (d.rest ≡ bits_from d.table 0 (rest_width c))
    pub right : (inputs : Inputs) (t : ℤ) → AreFor base inputs
        → IsQuotient (taken_at k inputs t) c (number_at d.net.nodes inputs t d.quotient) (number_at d.net.nodes inputs t d.rest)

  stands-first : Stands 0 (after w c 0)
  stands-first = record {
    later = later-same base input-valid;
    quotient = All-nil (IsThere (widths base.nodes));
    count = omega arith;
    rest = zeros-there (widths base.nodes) (rest_width c);
    rest_count = length-replicate (rest_width c) Zero;
    last = λ h. absurd (omega (arith, h));
    right = λ inputs t words.
        let none = at-zeros base.nodes inputs t (rest_width c) in
        let no_bits : 0 * a ≡ 0 = omega arith in
        let taken : taken_at 0 inputs t ≡ 0 = ap (λ m. number_at base.nodes inputs t (take m (dividend w c))) no_bits in
        (omega (arith, none, taken), omega (arith, none, small.some));
  }

  -- a digit more
  module _ (k : ℕ) (d : Divided) (before : k < digit_number w c) (s : Stands k d) where
    abbrev digit : List WordBit
    digit = digit_bits w c k

    digit-there : All (IsThere (widths base.nodes)) digit
    digit-there =
        let P = IsThere (widths base.nodes) in
        All-take P a (drop (k * a) (dividend w c)) (All-drop P (k * a) (dividend w c) dividend-there)

    pub within : k * a + a ≤ length (dividend w c)
    within =
        let e : a * (k + 1) ≤ a * digit_number w c = mul-le-mul_left a (omega (arith, before)) in
        omega (arith, dividend-length, e)

    pub digit-length : length digit ≡ a
    digit-length = omega (arith, length-take a (drop (k * a) (dividend w c)), length-drop (k * a) (dividend w c), within)

    abbrev given : List WordBit
    given = d.rest ++ digit

    pub given-length : length given ≡ 6
    given-length = omega (arith, length-append d.rest digit, s.rest_count, digit-length, six-bits c small)

    digit-still : All (IsThere (widths d.net.nodes)) digit
    digit-still = grown-all_there base d.net s.later.grown digit digit-there

    pub given-there : All (IsThere (widths d.net.nodes)) given
    given-there = All-append (IsThere (widths d.net.nodes)) d.rest digit s.rest digit-still

    given-wide : IsWidth (length given)
    given-wide = (omega (arith, given-length), omega (arith, given-length))

    abbrev raised : Net
    raised = (with_bits d.net given).net

    abbrev address : ℕ
    address = (with_bits d.net given).place

    raised-later : Later d.net raised
    raised-later = bits-later d.net s.later.valid given given-wide given-there

    address-wide : slice_index (widths raised.nodes) address ≡ 6
    address-wide = word-found_width d.net s.later.valid given given-there ∙ given-length

    fits : FitsTable (widths raised.nodes) address (rows c)
    fits = table-fits (widths raised.nodes) address c address-wide

    abbrev node : Node
    node = Table address (rows c)

    abbrev next : Divided
    next = divided c digit d

    abbrev table : ℕ
    table = length raised.nodes

    next-later : Later d.net next.net
    next-later = later-then d.net raised next.net raised-later (later-node raised node raised-later.valid fits refl)

    pub table-wide : slice_index (widths next.net.nodes) table ≡ 6
    table-wide = width-append_last raised.nodes node ∙ ap length (row-at c 64 0 [] (omega arith)) ∙ length-word 6 (row c 0)

    -- at a time
    module _ (inputs : Inputs) (t : ℤ) (words : AreFor base inputs) where
      abbrev in_d : List WordBit → ℕ
      in_d = number_at d.net.nodes inputs t

      abbrev in_next : List WordBit → ℕ
      in_next = number_at next.net.nodes inputs t

      abbrev x : ℕ
      x = number_at base.nodes inputs t digit

      abbrev r : ℕ
      r = in_d d.rest

      abbrev n : ℕ
      n = x + 2 ^ a * r

      words_d : AreFor d.net inputs
      words_d = words-later base d.net s.later inputs words

      held : IsQuotient (taken_at k inputs t) c (in_d d.quotient) r
      held = s.right inputs t words

      digit-below : x < 2 ^ a
      digit-below = subst (λ m. x < 2 ^ m) digit-length (at-below base.nodes inputs t digit)

      is_rest : n < 2 ^ a * c
      is_rest = address-below c (2 ^ a) r x held.1 digit-below

      given-number : in_d given ≡ n
      given-number =
          let kept = number-kept base.nodes d.net.nodes (grown-flow base d.net s.later.grown) inputs t digit digit-there in
          at-append d.net.nodes inputs t d.rest digit ∙ omega (arith, kept, ap (λ m. 2 ^ m * r) digit-length)

      address-number : nat (flow raised.nodes inputs address t) ≡ n
      address-number = ap nat (word-has_bits d.net s.later.valid given given-there inputs t words_d) ∙ given-number

      abbrev v : ℕ
      v = row c n

      address-six : n < 64
      address-six = subst (λ m. n < m) (both-room c small) (omega (arith, is_rest, mul-le-mul_left (2 ^ a) (rest-room c small)))

      table-word : flow next.net.nodes inputs table t ≡ word 6 v
      table-word =
          flow-append_last raised.nodes node inputs t
          ∙ ap (λ m. slice_index_or (rows c) m []) address-number
          ∙ row-at c 64 n [] address-six

      table-length : length (flow next.net.nodes inputs table t) ≡ 6
      table-length = ap length table-word ∙ length-word 6 v

      row-value : nat (flow next.net.nodes inputs table t) ≡ (n / c) * 2 ^ rest_width c + n % c
      row-value = ap nat table-word ∙ nat-word 6 v (row-below c small n) ∙ row-is c small n is_rest

      rest-number : in_next next.rest ≡ n % c
      rest-number =
          let f = flow next.net.nodes inputs table t in
          let m = 2 ^ rest_width c in
          let room : n % c < m = omega (arith, rest-below c small n, rest-room c small) in
          ap nat (bits_from-flow next.net.nodes inputs t table 0 (rest_width c) (omega (arith, table-length, rest-few c small)))
          ∙ nat-take (rest_width c) f
          ∙ ap (λ u. u % m) row-value
          ∙ mod-mul-add (n / c) m (n % c) room

      quotient-number : in_next (bits_from table (rest_width c) a) ≡ n / c
      quotient-number =
          let f = flow next.net.nodes inputs table t in
          let m = 2 ^ rest_width c in
          let room : n % c < m = omega (arith, rest-below c small n, rest-room c small) in
          let high : nat (drop (rest_width c) f) ≡ n / c =
          sym (nat-drop (rest_width c) f) ∙ ap (λ u. u / m) row-value ∙ div-mul-add (n / c) m (n % c) room in
          ap nat (bits_from-flow next.net.nodes inputs t table (rest_width c) a (omega (arith, table-length, six-bits c small)))
          ∙ nat-take a (drop (rest_width c) f)
          ∙ ap (λ u. u % 2 ^ a) high
          ∙ mod-eq_of_lt (quotient-room c small n is_rest)

      all-quotient : in_next next.quotient ≡ n / c + 2 ^ a * in_d d.quotient
      all-quotient =
          let kept = number-kept d.net.nodes next.net.nodes (grown-flow d.net next.net next-later.grown) inputs t d.quotient s.quotient in
          let new = bits_from table (rest_width c) a in
          at-append next.net.nodes inputs t d.quotient new
          ∙ omega (arith, quotient-number, ap (λ u. 2 ^ a * u) kept, ap (λ m. 2 ^ m * in_next d.quotient) (length-bits_from table (rest_width c) a))

      all-taken : taken_at (suc k) inputs t ≡ x + 2 ^ a * taken_at k inputs t
      all-taken =
          let e : suc k * a ≡ k * a + a = omega arith in
          let front = take (k * a) (dividend w c) in
          ap (λ m. number_at base.nodes inputs t (take m (dividend w c))) e
          ∙ ap (number_at base.nodes inputs t) (take-more (dividend w c) (k * a) a)
          ∙ at-append base.nodes inputs t front digit
          ∙ ap (λ m. x + 2 ^ m * taken_at k inputs t) digit-length

      right-next : IsQuotient (taken_at (suc k) inputs t) c (in_next next.quotient) (in_next next.rest)
      right-next =
          let new = next_digit c (2 ^ a) (taken_at k inputs t) (in_d d.quotient) r x (omega (arith, small.some)) held digit-below in
          subst (λ m. IsQuotient m c (in_next next.quotient) (in_next next.rest)) (sym all-taken)
          (subst (λ m. IsQuotient (x + 2 ^ a * taken_at k inputs t) c m (in_next next.rest)) (sym all-quotient)
          (subst (λ m. IsQuotient (x + 2 ^ a * taken_at k inputs t) c (n / c + 2 ^ a * in_d d.quotient) m) (sym rest-number) new))

    stands-next : Stands (suc k) next
    stands-next = record {
      later = later-then base d.net next.net s.later next-later;
      quotient = All-append (IsThere (widths next.net.nodes)) d.quotient (bits_from table (rest_width c) a)
          (grown-all_there d.net next.net next-later.grown d.quotient s.quotient)
          (bits_from-there (widths next.net.nodes) table (rest_width c) a (omega (arith, table-wide, six-bits c small)));
      count = omega (arith, length-append d.quotient (bits_from table (rest_width c) a), length-bits_from table (rest_width c) a, s.count);
      rest = bits_from-there (widths next.net.nodes) table 0 (rest_width c) (omega (arith, table-wide, rest-few c small));
      rest_count = length-bits_from table 0 (rest_width c);
      last = λ _. (table-wide, refl);
      right = right-next;
    }

  pub stands : (k : ℕ) → k ≤ digit_number w c → Stands k (after w c k)
  stands zero h = stands-first
  stands (suc k) h = stands-next k (after w c k) (omega (arith, h)) (stands k (omega (arith, h)))

  -- a net after some digits grows out of that after fewer
  pub later-by : (k j : ℕ) → k + j ≤ digit_number w c → Later (after w c k).net (after w c (k + j)).net
  later-by k zero h =
      let e : k ≡ k + 0 = omega arith in
      subst (λ m. Later (after w c k).net (after w c m).net) e (later-same (after w c k).net (stands k (omega (arith, h))).later.valid)
  later-by k (suc j) h =
      let e : suc (k + j) ≡ k + suc j = omega arith in
      let one = next-later (k + j) (after w c (k + j)) (omega (arith, h)) (stands (k + j) (omega (arith, h))) in
      let all = later-then (after w c k).net (after w c (k + j)).net (after w c (suc (k + j))).net (later-by k j (omega (arith, h))) one in
      subst (λ m. Later (after w c k).net (after w c m).net) e all
