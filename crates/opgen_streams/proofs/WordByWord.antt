-- A bit of a stream after an operation on each word of two vectors.
use Rattle.std.proofs.Common.{◌≡◌, ℕ, zero, suc, ◌+◌, ◌-◌, ◌/◌, ◌%◌, ◌<◌, Bool, true, false, not, ◌&&◌, ◌||◌, min, max, List, [], ◌∷◌, length, map, get_or, eqb, refl, ap, ◌∙◌, arith, bit_and, bit_or, bit_xor}
use Rattle.std.specs.Int.{bit_at, bit_not}
use Rattle.std.specs.Simd.Lanes.{zip2, Each1}
use Rattle.std.proofs.lemmas.List.{get_or-map}
use Rattle.std.proofs.lemmas.Nat.Bits.{bit_at_and, bit_at_or, bit_at_xor, bit_at_not, bit_at-lt, bit_at_ones, bit_at-zero}
use Rattle.std.proofs.lemmas.Simd.{get_or-zip2, get_or-replicate, Each1-get_or}
use Rattle.opgen_num.specs.Words.{xor}
use Rattle.opgen_streams.specs.Streams.{bit_in, streams}
use mir.Syntax.{w64}
use mir.Val.{Fits}

module _ (op low : ℕ → ℕ → ℕ) (f : Bool → Bool → Bool) (bits : (a b i : ℕ) → bit_at (op a b) i ≡ low (bit_at a i) (bit_at b i))
    (same : (a b : ℕ) → a < 2 → b < 2 → eqb (low a b) 1 ≡ f (eqb a 1) (eqb b 1)) where
  pub word-by-word : (first second : List ℕ) → length first ≡ 4 → length second ≡ 4 → (k : ℕ) → k < streams
      → bit_in (zip2 op first second) k ≡ f (bit_in first k) (bit_in second k)
  word-by-word first second l m k h =
      let lane : k / 64 < 4 = omega (arith, h) in
      let a = get_or first (k / 64) 0 in
      let b = get_or second (k / 64) 0 in
      let e = get_or-zip2 op first second (k / 64) 0 0 0 (omega (arith, lane, l)) (omega (arith, lane, m)) in
      ap (λ x. eqb (bit_at x (k % 64)) 1) e
      ∙ ap (λ x. eqb x 1) (bits a b (k % 64))
      ∙ same (bit_at a (k % 64)) (bit_at b (k % 64)) (bit_at-lt a (k % 64)) (bit_at-lt b (k % 64))

and-same : (a b : ℕ) → a < 2 → b < 2 → eqb (min a b) 1 ≡ eqb a 1 && eqb b 1
and-same zero zero l m = refl
and-same zero (suc zero) l m = refl
and-same (suc zero) zero l m = refl
and-same (suc zero) (suc zero) l m = refl
and-same (suc (suc a)) b l m = absurd (omega (arith, l))
and-same a (suc (suc b)) l m = absurd (omega (arith, m))

or-same : (a b : ℕ) → a < 2 → b < 2 → eqb (max a b) 1 ≡ eqb a 1 || eqb b 1
or-same zero zero l m = refl
or-same zero (suc zero) l m = refl
or-same (suc zero) zero l m = refl
or-same (suc zero) (suc zero) l m = refl
or-same (suc (suc a)) b l m = absurd (omega (arith, l))
or-same a (suc (suc b)) l m = absurd (omega (arith, m))

xor-same : (a b : ℕ) → a < 2 → b < 2 → eqb ((a + b) % 2) 1 ≡ xor (eqb a 1) (eqb b 1)
xor-same zero zero l m = refl
xor-same zero (suc zero) l m = refl
xor-same (suc zero) zero l m = refl
xor-same (suc zero) (suc zero) l m = refl
xor-same (suc (suc a)) b l m = absurd (omega (arith, l))
xor-same a (suc (suc b)) l m = absurd (omega (arith, m))

not-same : (a : ℕ) → a < 2 → eqb (1 - a) 1 ≡ not (eqb a 1)
not-same zero l = refl
not-same (suc zero) l = refl
not-same (suc (suc a)) l = absurd (omega (arith, l))

module _ (first second : List ℕ) (l : length first ≡ 4) (m : length second ≡ 4) (k : ℕ) (h : k < streams) where
  pub and-bit : bit_in (zip2 bit_and first second) k ≡ bit_in first k && bit_in second k
  and-bit = word-by-word bit_and min ◌&&◌ bit_at_and and-same first second l m k h

  pub or-bit : bit_in (zip2 bit_or first second) k ≡ bit_in first k || bit_in second k
  or-bit = word-by-word bit_or max ◌||◌ bit_at_or or-same first second l m k h

  pub xor-bit : bit_in (zip2 bit_xor first second) k ≡ xor (bit_in first k) (bit_in second k)
  xor-bit = word-by-word bit_xor (λ a b. (a + b) % 2) xor bit_at_xor xor-same first second l m k h

pub not-bit : (bits : List ℕ) → length bits ≡ 4 → Each1 (Fits w64) bits → (k : ℕ) → k < streams
    → bit_in (map (bit_not w64) bits) k ≡ not (bit_in bits k)
not-bit bits l f k h =
    let lane : k / 64 < length bits = omega (arith, h, l) in
    let a = get_or bits (k / 64) 0 in
    let below = (Each1-get_or (Fits w64) bits (k / 64) 0 lane f).fits in
    ap (λ x. eqb (bit_at x (k % 64)) 1) (get_or-map (bit_not w64) bits (k / 64) 0 0 lane)
    ∙ ap (λ x. eqb x 1) (bit_at_not w64 a (k % 64) below (omega arith))
    ∙ not-same (bit_at a (k % 64)) (bit_at-lt a (k % 64))

same-word : (x k : ℕ) → k < streams → bit_in (x ∷ x ∷ x ∷ x ∷ []) k ≡ eqb (bit_at x (k % 64)) 1
same-word x k h = ap (λ n. eqb (bit_at n (k % 64)) 1) (get_or-replicate 4 (k / 64) x 0 (omega (arith, h)))

pub ones-bit : (k : ℕ) → k < streams → bit_in (18446744073709551615 ∷ 18446744073709551615 ∷ 18446744073709551615 ∷ 18446744073709551615 ∷ []) k ≡ true
ones-bit k h = same-word 18446744073709551615 k h ∙ ap (λ n. eqb n 1) (bit_at_ones 64 (k % 64) (omega arith))

pub zeros-bit : (k : ℕ) → k < streams → bit_in (0 ∷ 0 ∷ 0 ∷ 0 ∷ []) k ≡ false
zeros-bit k h = same-word 0 k h ∙ ap (λ n. eqb n 1) (bit_at-zero (k % 64))
