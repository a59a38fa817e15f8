-- Two words at neighbouring addresses, bit by bit.
use Rattle.std.proofs.Common.{◌≡◌, ℕ, ◌+◌, ◌*◌, ◌/◌, ◌%◌, ◌<◌, Bool, true, false, not, ◌&&◌, ◌||◌, if◌then◌else◌, List, [], ◌∷◌, ◌++◌, length, take, drop, get_or, append_assoc, refl, sym, ap, ◌∙◌, arith}
use Rattle.std.specs.Prelude.{slice_set}
use Rattle.std.proofs.lemmas.List.{drop_more, drop-set-lt, get_or-map, length-map, map-append, take_more_set}
use Rattle.std.proofs.Math.Bool.{or-false}
use Rattle.opgen_num.specs.Words.{digit, nat}
use Rattle.opgen_num.proofs.Words.{digit-below}
use Rattle.opgen_streams.specs.Streams.{bit_in, word_in}

-- what two bits at neighbouring addresses put into a vector
pub way-of : (first second here low : Bool) (ways : List (List ℕ)) (k : ℕ)
    → word_in ways k ≡ false ∷ (here && not low) ∷ (here && low) ∷ here ∷ []
    → bit_in (get_or ways (digit first + 2 * digit second) []) k ≡ here && (if low then second else first)
way-of first second here low ways k e =
    let place = digit first + 2 * digit second in
    let n : length ways ≡ 4 = sym (length-map ways (λ v. bit_in v k)) ∙ ap length e in
    sym (get_or-map (λ v. bit_in v k) ways place [] false (omega (arith, n, digit-below first, digit-below second)))
    ∙ ap (λ bs. get_or bs place false) e
    ∙ by-bits first second here low
  where
    by-bits : (first second here low : Bool) → get_or (false ∷ (here && not low) ∷ (here && low) ∷ here ∷ []) (digit first + 2 * digit second) false
        ≡ here && (if low then second else first)
    by-bits false false false false = refl
    by-bits false false false true = refl
    by-bits false false true false = refl
    by-bits false false true true = refl
    by-bits false true false false = refl
    by-bits false true false true = refl
    by-bits false true true false = refl
    by-bits false true true true = refl
    by-bits true false false false = refl
    by-bits true false false true = refl
    by-bits true false true false = refl
    by-bits true false true true = refl
    by-bits true true false false = refl
    by-bits true true false true = refl
    by-bits true true true false = refl
    by-bits true true true true = refl

-- the number of what is left of a word: its lowest bit, and what is left then
module _ (w : List Bool) (place n : ℕ) (l : place < length w) (e : n ≡ nat (drop place w)) where
  left-is : n ≡ digit (get_or w place false) + 2 * nat (drop (place + 1) w)
  left-is = e ∙ ap nat (drop_more w place false l)

  pub lowest-left : n % 2 ≡ digit (get_or w place false)
  lowest-left = omega (arith, left-is, digit-below (get_or w place false))

  pub next-left : n / 2 ≡ nat (drop (place + 1) w)
  next-left = omega (arith, left-is, digit-below (get_or w place false))

zero-bit : (b : Bool) (w : List Bool) → nat (b ∷ w) ≡ 0 → b ≡ false
zero-bit false w e = refl
zero-bit true w e = absurd (omega (arith, e))

next-bit : (here low bit old a b : Bool) (xs ys olds first second out : List Bool) → first ≡ a ∷ xs → second ≡ b ∷ ys → out ≡ old ∷ olds
    → bit ≡ old || (here && (if low then b else a)) → (here ≡ true → nat out ≡ 0)
    → bit ∷ (if here then (if low then ys else xs) else olds) ≡ (if here then (if low then second else first) else out)
next-bit false low bit old a b xs ys olds first second out e f g h z = ap (λ c. c ∷ olds) (h ∙ or-false old) ∙ sym g
next-bit true false bit old a b xs ys olds first second out e f g h z =
    ap (λ c. c ∷ xs) (h ∙ ap (λ o. o || a) (zero-bit old olds (sym (ap nat g) ∙ z refl))) ∙ sym e
next-bit true true bit old a b xs ys olds first second out e f g h z =
    ap (λ c. c ∷ ys) (h ∙ ap (λ o. o || b) (zero-bit old olds (sym (ap nat g) ∙ z refl))) ∙ sym f

-- one more bit, where zeros were
module _ (here low : Bool) (first second : List Bool) (out : List (List ℕ)) (place k : ℕ) (v : List ℕ) (l : place < length out)
    (z : here ≡ true → nat (word_in (drop place out) k) ≡ 0) where
  back : drop (place + 1) (slice_set out place v) ≡ drop (place + 1) out
  back = drop-set-lt (place + 1) out place v (omega arith)

  more : word_in (drop place out) k ≡ bit_in (get_or out place []) k ∷ word_in (drop (place + 1) out) k
  more = ap (λ vs. word_in vs k) (drop_more out place [] l)

  pub still-zeros : here ≡ true → nat (word_in (drop (place + 1) (slice_set out place v)) k) ≡ 0
  still-zeros h = ap (λ vs. nat (word_in vs k)) back ∙ omega (arith, z h, ap nat more)

  pub one-more-bit : place < length first → place < length second
      → bit_in v k ≡ bit_in (get_or out place []) k || (here && (if low then get_or second place false else get_or first place false))
      → word_in (take (place + 1) (slice_set out place v)) k
      ++ (if here then (if low then drop (place + 1) second else drop (place + 1) first) else word_in (drop (place + 1) (slice_set out place v)) k)
      ≡ word_in (take place out) k ++ (if here then (if low then drop place second else drop place first) else word_in (drop place out) k)
  one-more-bit m n e =
      let bit = bit_in v k in
      let front = word_in (take place out) k in
      let pair = if low then drop (place + 1) second else drop (place + 1) first in
      let begun : word_in (take (place + 1) (slice_set out place v)) k ≡ front ++ (bit ∷ []) =
      ap (λ vs. word_in vs k) (take_more_set out place v l) ∙ map-append (λ x. bit_in x k) (take place out) (v ∷ []) in
      ap (λ vs. vs ++ (if here then pair else word_in (drop (place + 1) (slice_set out place v)) k)) begun
      ∙ ap (λ vs. (front ++ (bit ∷ [])) ++ (if here then pair else word_in vs k)) back
      ∙ append_assoc front (bit ∷ []) (if here then pair else word_in (drop (place + 1) out) k)
      ∙ ap (λ vs. front ++ vs) (next-bit here low bit (bit_in (get_or out place []) k) (get_or first place false) (get_or second place false)
      (drop (place + 1) first) (drop (place + 1) second) (word_in (drop (place + 1) out) k) (drop place first) (drop place second) (word_in (drop place out) k)
      (drop_more first place false m) (drop_more second place false n) more e z)
