-- The row of an address has the quotient of the address and its remainder.
use Rattle.std.proofs.Common.{◌≡◌, ℕ, zero, suc, ◌+◌, ◌-◌, ◌*◌, ◌/◌, ◌%◌, ◌^◌, ◌<◌, ◌≤◌, Bool, false, nat_lt, if◌then◌else◌, List, [], ◌∷◌, ◌++◌, length, length-append, pow-add, inl, inr, le-ltb, refl, sym, ap, ◌∙◌, arith}
use Rattle.std.specs.Prelude.{slice_index, slice_index_or}
use Rattle.std.proofs.Math.ListN.{get_or-append}
use Rattle.std.proofs.Math.Nat.{mul-le-mul_left}
use Rattle.std.proofs.Math.Seq.{get_or-append_seam}
use Rattle.std.proofs.lemmas.Bool.{cases_lt, lt-ltb}
use Rattle.std.proofs.lemmas.Nat.{div-add-mod', div_below, mod_below, pow_pos}
use Rattle.opgen_num.specs.Rounding.{IsQuotient}
use Rattle.opgen_num.specs.Words.{word}
use Rattle.opgen_num.specs.WordLaws.{length-word}
use Rattle.opgen_num.proofs.RangeWidth.{count-holds, count-least}
use Rattle.opgen_net.specs.Valid.{FitsTable}
use Rattle.opgen_constdiv.specs.Rows.{IsSmall, rest_width, digit_width, row, rows_below, rows}

some-digits : (n d : ℕ) → 1 ≤ n → n < 2 ^ d → 1 ≤ d
some-digits n zero h l = absurd (omega (arith, h, l))
some-digits n (suc d) h l = omega arith

module _ (c : ℕ) (small : IsSmall c) where
  -- the widths of a remainder and of a digit
  pub rest-some : 1 ≤ rest_width c
  rest-some = some-digits (c - 1) (rest_width c) (omega (arith, small.some)) (count-holds (c - 1))

  pub rest-few : rest_width c ≤ 5
  rest-few = count-least (c - 1) 5 (omega (arith, small.few))

  pub six-bits : rest_width c + digit_width c ≡ 6
  six-bits = omega (arith, rest-few)

  pub digit-some : 1 ≤ digit_width c
  digit-some = omega (arith, rest-few)

  pub digit-few : digit_width c ≤ 5
  digit-few = omega (arith, rest-some)

  -- each remainder has room
  pub rest-room : c ≤ 2 ^ rest_width c
  rest-room = omega (arith, count-holds (c - 1), small.some)

  pub both-room : 2 ^ digit_width c * 2 ^ rest_width c ≡ 64
  both-room =
      let e : digit_width c + rest_width c ≡ 6 = omega (arith, six-bits) in
      sym (pow-add 2 (digit_width c) (rest_width c)) ∙ ap (λ k. 2 ^ k) e

  module _ (n : ℕ) where
    -- an address whose remainder is one
    module _ (is_rest : n < 2 ^ digit_width c * c) where
      pub quotient-room : n / c < 2 ^ digit_width c
      quotient-room = div_below n c (2 ^ digit_width c) (omega (arith, small.some)) is_rest

      pub row-is : row c n ≡ (n / c) * 2 ^ rest_width c + n % c
      row-is =
          let a = 2 ^ digit_width c in
          let below : n / a < c = div_below n a c (pow_pos (digit_width c)) (omega (arith, is_rest)) in
          ap (λ (b : Bool). if b then (n / c) * 2 ^ rest_width c + n % c else 0) (lt-ltb (n / a) c below)

    pub rest-below : n % c < c
    rest-below = mod_below n c (omega (arith, small.some))

    -- any row has six bits
    pub row-below : row c n < 64
    row-below = elim (cases_lt (n / 2 ^ digit_width c) c) [
      | inl l ↦
          let a = 2 ^ digit_width c in
          let r = 2 ^ rest_width c in
          let in_all : a * (n / a + 1) ≤ a * c = mul-le-mul_left a (omega (arith, l)) in
          let is_rest : n < a * c = omega (arith, in_all, div-add-mod' n a, mod_below n a (pow_pos (digit_width c))) in
          let high : r * (n / c + 1) ≤ r * a = mul-le-mul_left r (omega (arith, quotient-room is_rest)) in
          omega (arith, row-is is_rest, rest-below, rest-room, both-room, high)
      | inr l ↦ omega (arith, ap (λ (b : Bool). if b then (n / c) * 2 ^ rest_width c + n % c else 0) (not_less (n / 2 ^ digit_width c) c l))
    ]
      where
        not_less : (m k : ℕ) → k ≤ m → nat_lt m k ≡ false
        not_less m k h = le-ltb m k h

-- rows

pub length-rows : (c count : ℕ) → length (rows_below c count) ≡ count
length-rows c zero = refl
length-rows c (suc k) = omega (arith, length-append (rows_below c k) (word 6 (row c k) ∷ []), length-rows c k)

pub row-at : (c count k : ℕ) (d : List Bool) → k < count → slice_index_or (rows_below c count) k d ≡ word 6 (row c k)
row-at c zero k d h = absurd (omega (arith, h))
row-at c (suc n) k d h = elim (cases_lt k n) [
  | inl l ↦ get_or-append (rows_below c n) (word 6 (row c n) ∷ []) d k (omega (arith, l, length-rows c n)) ∙ row-at c n k d l
  | inr l ↦
      let same : k ≡ n = omega (arith, l, h) in
      let last : k ≡ length (rows_below c n) = omega (arith, same, length-rows c n) in
      ap (λ i. slice_index_or (rows_below c n ++ word 6 (row c n) ∷ []) i d) last
      ∙ get_or-append_seam (rows_below c n) (word 6 (row c n)) [] d
      ∙ ap (λ i. word 6 (row c i)) (sym same)
]

rows-fit : (ws : List ℕ) (address c count : ℕ) → slice_index ws address ≡ 6 → count ≡ 2 ^ 6 → FitsTable ws address (rows_below c count)
rows-fit ws address c count at all =
    let first = ap length (row-at c count 0 [] (omega (arith, all))) ∙ length-word 6 (row c 0) in record {
      address_width = (omega (arith, at), omega (arith, at));
      row_for_each = length-rows c count ∙ all ∙ ap (λ n. 2 ^ n) (sym at);
      row_width = (omega (arith, first), omega (arith, first));
      same_width = λ i d l.
          ap length (row-at c count i d (omega (arith, l, length-rows c count))) ∙ length-word 6 (row c i) ∙ sym first;
    }

pub table-fits : (ws : List ℕ) (address c : ℕ) → slice_index ws address ≡ 6 → FitsTable ws address (rows c)
table-fits ws address c at = rows-fit ws address c 64 at refl

-- a digit more of a division
pub next_digit : (c a n q r d : ℕ) → 1 ≤ c → IsQuotient n c q r → d < a
    → IsQuotient (d + a * n) c ((d + a * r) / c + a * q) ((d + a * r) % c)
next_digit c a n q r d some h below =
    let m = d + a * r in
    let whole = div-add-mod' m c in
    (omega (arith, h.0, whole, ap (λ k. a * k) h.0), mod_below m c (omega (arith, some)))

-- an address whose remainder is below the divisor
pub address-below : (c a r d : ℕ) → r < c → d < a → d + a * r < a * c
address-below c a r d h l =
    let e : a * (r + 1) ≤ a * c = mul-le-mul_left a (omega (arith, h)) in
    omega (arith, e, l)
