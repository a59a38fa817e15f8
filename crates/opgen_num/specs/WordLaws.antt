-- Laws of words: a word made of a number and a width returns both.
use Rattle.std.specs.Prelude.{◌≡◌, ℕ, zero, suc, ◌/◌, ◌%◌, ◌^◌, ◌<◌, length, eqb, refl}
use Rattle.std.proofs.Common.{ap, arith}
use Rattle.std.proofs.Math.Nat.{two-pow-succ}
use Rattle.opgen_num.specs.Words.{digit, nat, word}

pub length-word : (width n : ℕ) → length (word width n) ≡ width
length-word zero n = refl
length-word (suc width) n = ap suc (length-word width (n / 2))

-- the lowest bit of a number, as a number
pub digit-low : (n : ℕ) → digit (eqb (n % 2) 1) ≡ n % 2
digit-low n = go (n % 2) (omega arith)
  where
    go : (r : ℕ) → r < 2 → digit (eqb r 1) ≡ r
    go zero h = refl
    go (suc zero) h = refl
    go (suc (suc r)) h = absurd (omega (arith, h))

pub nat-word : (width n : ℕ) → n < 2 ^ width → nat (word width n) ≡ n
nat-word zero n h = omega arith
nat-word (suc width) n h =
    let half : n / 2 < 2 ^ width = omega (arith, two-pow-succ width, h) in
    omega (arith, nat-word width (n / 2) half, digit-low n)
