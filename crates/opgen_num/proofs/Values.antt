-- The numbers that words stand for.
use Rattle.std.proofs.Common.{◌≡◌, ℕ, suc, ◌+◌, ◌-◌, ◌*◌, ◌^◌, ◌<◌, ◌≤◌, Bool, true, false, List, [], ◌∷◌, length, cond, ap, arith, replicate, ◌∙◌}
use Rattle.std.specs.Prelude.{ℤ, pos, ◌-ℤ◌, ◌<ℤ◌, ◌≤ℤ◌}
use Rattle.std.proofs.Math.Nat.{two-pow-succ}
use Rattle.std.proofs.lemmas.Int.{ints}
use Rattle.opgen_num.specs.declared.format.Format.{Format}
use Rattle.opgen_num.specs.Words.{digit, nat, highest, int, val}
use Rattle.opgen_num.specs.Formats.{Holds}
use Rattle.opgen_num.proofs.Words.{digit-below, nat-below, nat-zeros, highest-zeros}

-- the number of a word has the weight of the highest bit where that is 1, and is below it where it is 0
pub highest_weight : (b : Bool) (w : List Bool) → (cond (highest (b ∷ w)) (2 ^ length w) 0 ≤ nat (b ∷ w))
    × (nat (b ∷ w) < 2 ^ length w + cond (highest (b ∷ w)) (2 ^ length w) 0)
highest_weight true [] = omega arith
highest_weight false [] = omega arith
highest_weight b (c ∷ w) = go (highest (c ∷ w)) (highest_weight c w)
  where
    go : (top : Bool) → (cond top (2 ^ length w) 0 ≤ nat (c ∷ w)) × (nat (c ∷ w) < 2 ^ length w + cond top (2 ^ length w) 0)
        → (cond top (2 ^ suc (length w)) 0 ≤ digit b + 2 * nat (c ∷ w))
        × (digit b + 2 * nat (c ∷ w) < 2 ^ suc (length w) + cond top (2 ^ suc (length w)) 0)
    go true h = omega (arith, two-pow-succ (length w), digit-below b)
    go false h = omega (arith, two-pow-succ (length w), digit-below b)

pub int-low : (w : List Bool) → 2 * nat w < 2 ^ length w → int w ≡ pos (nat w)
int-low [] h = omega (arith, ints)
int-low (b ∷ w) h = go (highest (b ∷ w)) (highest_weight b w)
  where
    go : (top : Bool) → (cond top (2 ^ length w) 0 ≤ nat (b ∷ w)) × (nat (b ∷ w) < 2 ^ length w + cond top (2 ^ length w) 0)
        → pos (nat (b ∷ w)) -ℤ pos (cond top (2 ^ suc (length w)) 0) ≡ pos (nat (b ∷ w))
    go true l = absurd (omega (arith, two-pow-succ (length w)))
    go false l = omega (arith, ints)

pub int-high : (w : List Bool) → 2 ^ length w ≤ 2 * nat w → int w ≡ pos (nat w) -ℤ pos (2 ^ length w)
int-high [] h = absurd (omega arith)
int-high (b ∷ w) h = go (highest (b ∷ w)) (highest_weight b w)
  where
    go : (top : Bool) → (cond top (2 ^ length w) 0 ≤ nat (b ∷ w)) × (nat (b ∷ w) < 2 ^ length w + cond top (2 ^ length w) 0)
        → pos (nat (b ∷ w)) -ℤ pos (cond top (2 ^ suc (length w)) 0) ≡ pos (nat (b ∷ w)) -ℤ pos (2 ^ suc (length w))
    go true l = omega (arith, ints)
    go false l = absurd (omega (arith, two-pow-succ (length w)))

signed_holds : (width : ℕ) (n : ℤ) → (pos 0 -ℤ pos (2 ^ (width - 1))) ≤ℤ n → n <ℤ pos (2 ^ (width - 1)) → Holds true width n
signed_holds width n low high = (low, omega (arith, ints))

pub int_holds : (w : List Bool) → 1 ≤ length w → Holds true (length w) (int w)
int_holds [] h = absurd (omega arith)
int_holds (b ∷ w) h = go (highest (b ∷ w)) (highest_weight b w)
  where
    half : suc (length w) - 1 ≡ length w
    half = omega arith

    go : (top : Bool) → (cond top (2 ^ length w) 0 ≤ nat (b ∷ w)) × (nat (b ∷ w) < 2 ^ length w + cond top (2 ^ length w) 0)
        → Holds true (suc (length w)) (pos (nat (b ∷ w)) -ℤ pos (cond top (2 ^ suc (length w)) 0))
    go true l = signed_holds (suc (length w)) _ (omega (arith, ints, two-pow-succ (length w), ap (λ i. 2 ^ i) half))
        (omega (arith, ints, two-pow-succ (length w), ap (λ i. 2 ^ i) half))
    go false l = signed_holds (suc (length w)) _ (omega (arith, ints, ap (λ i. 2 ^ i) half)) (omega (arith, ints, ap (λ i. 2 ^ i) half))

-- a format holds the number of each word of its width
pub val_holds : (w : List Bool) (format : Format) → 1 ≤ length w → Holds format.signed (length w) (val w format)
val_holds w format h = go format.signed
  where
    go : (signed : Bool) → Holds signed (length w) (cond signed (int w) (pos (nat w)))
    go true = int_holds w h
    go false = (omega (arith, ints), omega (arith, ints, nat-below w))

-- the number of a word without a sign
pub val-unsigned : (w : List Bool) (format : Format) → format.signed ≡ false → val w format ≡ pos (nat w)
val-unsigned w format e = ap (λ (signed : Bool). cond signed (int w) (pos (nat w))) e

-- the number of a word of zeros
pub val-zeros : (format : Format) (k : ℕ) → val (replicate k false) format ≡ pos 0
val-zeros format k = go (replicate k false) format.signed (nat-zeros k) (highest-zeros k)
  where
    go : (w : List Bool) (signed : Bool) → nat w ≡ 0 → highest w ≡ false
        → cond signed (pos (nat w) -ℤ pos (cond (highest w) (2 ^ length w) 0)) (pos (nat w)) ≡ pos 0
    go w false e h = ap pos e
    go w true e h =
        ap (λ n. pos n -ℤ pos (cond (highest w) (2 ^ length w) 0)) e
        ∙ ap (λ (b : Bool). pos 0 -ℤ pos (cond b (2 ^ length w) 0)) h
