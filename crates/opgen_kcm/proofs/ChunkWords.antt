-- The chunks of a word, and the digits that make its number.
use Rattle.std.proofs.Common.{◌≡◌, ℕ, zero, suc, ◌+◌, ◌-◌, ◌*◌, ◌^◌, ◌<◌, ◌≤◌, Bool, true, false, cond, List, [], ◌∷◌, ◌++◌, length, take, drop, refl, sym, ap, ◌∙◌, arith}
use Rattle.std.specs.Prelude.{ℤ, pos, ◌+ℤ◌, ◌-ℤ◌, ◌*ℤ◌, ◌&&◌, min, nat_le}
use Rattle.std.proofs.Math.Seq.{take-add}
use Rattle.std.proofs.lemmas.Nat.{pow-add}
use Rattle.std.proofs.lemmas.Int.{ints}
use Rattle.std.proofs.lemmas.Bool.{le-leb, lt-leb}
use Rattle.std.proofs.lemmas.List.{length-drop, length-take-le, take_all}
use Rattle.std.proofs.Math.Bool.{and-false, and-true}
use Rattle.opgen_num.specs.Words.{nat, highest}
use Rattle.opgen_num.proofs.Cuts.{nat-append, nat-parts}
use Rattle.opgen_num.proofs.Integers.{product-difference}
use Rattle.opgen_kcm.specs.Chunks.{chunk_count, chunk_at, number, chunk_word, digit_of}

naturals-product : (a b m : ℕ) → (pos a -ℤ pos b) *ℤ pos m ≡ pos (a * m) -ℤ pos (b * m)
naturals-product a b m =
    let turned : (pos a -ℤ pos b) *ℤ pos m ≡ pos m *ℤ (pos a -ℤ pos b) = omega (arith, ints) in
    omega (arith, ints, turned, product-difference (pos m) (pos a) (pos b))

highest-drop : (k : ℕ) (w : List Bool) → k < length w → highest (drop k w) ≡ highest w
highest-drop zero w h = refl
highest-drop (suc k) [] h = absurd (omega (arith, h))
highest-drop (suc k) (b ∷ []) h = absurd (omega (arith, h))
highest-drop (suc k) (b ∷ c ∷ w) h = highest-drop k (c ∷ w) (omega (arith, h))

-- the lowest bits of a word, and a number in two's complement above them
pub number-parts : (signed : Bool) (n m k : ℕ) (w : List Bool) → k < length w
    → number signed n w ≡ pos (nat (take k w)) +ℤ (number signed m (drop k w) *ℤ pos (2 ^ k))
number-parts false n m k w h = omega (arith, ints, nat-parts k w)
number-parts true n m k w h = go (highest w) (highest (drop k w)) (highest-drop k w h)
  where
    go : (a b : Bool) → b ≡ a
        → pos (nat w) -ℤ pos (cond a (2 ^ length w) 0)
        ≡ pos (nat (take k w)) +ℤ ((pos (nat (drop k w)) -ℤ pos (cond b (2 ^ length (drop k w)) 0)) *ℤ pos (2 ^ k))
    go false false e = omega (arith, ints, nat-parts k w, naturals-product (nat (drop k w)) 0 (2 ^ k))
    go true true e =
        let long : length (drop k w) + k ≡ length w = omega (arith, length-drop k w, h) in
        let power : 2 ^ length w ≡ 2 ^ length (drop k w) * 2 ^ k = ap (λ n. 2 ^ n) (sym long) ∙ pow-add 2 (length (drop k w)) k in
        omega (arith, ints, nat-parts k w, power, naturals-product (nat (drop k w)) (2 ^ length (drop k w)) (2 ^ k))
    go true false e = cc
    go false true e = cc

-- the digits of the chunks so far, each with its weight
abbrev pub value_of : (width : ℕ) (signed : Bool) (count : ℕ) → List Bool → ℤ
value_of width signed zero x = pos 0
value_of width signed (suc k) x =
    let c = chunk_at width signed k in
    value_of width signed k x +ℤ (digit_of c (chunk_word c x) *ℤ pos (2 ^ c.low))

module _ (width : ℕ) (signed : Bool) (x : List Bool) (long : length x ≡ width) where
  -- a chunk that is not the last
  inner-digit : (k : ℕ) → 6 * suc k < width
      → digit_of (chunk_at width signed k) (chunk_word (chunk_at width signed k) x) ≡ pos (nat (take 6 (drop (6 * k) x)))
  inner-digit k h =
      let six : min (width - 6 * k) 6 ≡ 6 = omega (arith, h) in
      let more : (signed && nat_le (width - 6 * k) 6) ≡ false =
      ap (λ b. signed && b) (lt-leb (width - 6 * k) 6 (omega (arith, h))) ∙ and-false signed in
      ap (λ s. number s (min (width - 6 * k) 6) (take (min (width - 6 * k) 6) (drop (6 * k) x))) more
      ∙ ap (λ n. pos (nat (take n (drop (6 * k) x)))) six

  inner-value : (k : ℕ) → 6 * k < width → value_of width signed k x ≡ pos (nat (take (6 * k) x))
  inner-value zero h = refl
  inner-value (suc k) h =
      let low = take (6 * k) x in
      let next = take 6 (drop (6 * k) x) in
      let all : take (6 * suc k) x ≡ low ++ next = ap (λ n. take n x) (omega arith) ∙ take-add (6 * k) 6 x in
      let size : length low ≡ 6 * k = length-take-le (6 * k) x (omega (arith, h, long)) in
      let power : 2 ^ length low * nat next ≡ 2 ^ (6 * k) * nat next = ap (λ n. 2 ^ n * nat next) size in
      let digit = ap (λ d. d *ℤ pos (2 ^ (6 * k))) (inner-digit k h) in
      omega (arith, ints, inner-value k (omega (arith, h)), digit, ap (λ w. pos (nat w)) all, nat-append low next, power)

  last-digit : (k : ℕ) → 6 * k < width → width ≤ 6 * suc k
      → digit_of (chunk_at width signed k) (chunk_word (chunk_at width signed k) x) ≡ number signed width (drop (6 * k) x)
  last-digit k h l =
      let left : min (width - 6 * k) 6 ≡ width - 6 * k = omega (arith, l) in
      let same : (signed && nat_le (width - 6 * k) 6) ≡ signed =
      ap (λ b. signed && b) (le-leb (width - 6 * k) 6 (omega (arith, l))) ∙ and-true signed in
      let rest : take (width - 6 * k) (drop (6 * k) x) ≡ drop (6 * k) x =
      take_all (width - 6 * k) (drop (6 * k) x) (omega (arith, length-drop (6 * k) x, long)) in
      ap (λ s. number s (min (width - 6 * k) 6) (take (min (width - 6 * k) 6) (drop (6 * k) x))) same
      ∙ ap (λ n. number signed width (take n (drop (6 * k) x))) left
      ∙ ap (λ w. number signed width w) rest

  last-value : (k : ℕ) → 6 * k < width → width ≤ 6 * suc k → value_of width signed (suc k) x ≡ number signed width x
  last-value k h l =
      let digit = ap (λ d. d *ℤ pos (2 ^ (6 * k))) (last-digit k h l) in
      omega (arith, ints, inner-value k h, digit, number-parts signed width width (6 * k) x (omega (arith, h, long)))

  -- the digits of all chunks make the number of the word
  pub chunks-value : 1 ≤ width → value_of width signed (chunk_count width) x ≡ number signed width x
  chunks-value some =
      let k = chunk_count width - 1 in
      let all : chunk_count width ≡ suc k = omega (arith, some) in
      ap (λ n. value_of width signed n x) all ∙ last-value k (omega (arith, some)) (omega (arith, some))
