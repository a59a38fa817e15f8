-- The numbers of parts of words.
use Rattle.std.proofs.Common.{◌≡◌, ℕ, zero, suc, ◌+◌, ◌-◌, ◌*◌, ◌/◌, ◌%◌, ◌^◌, ◌<◌, Bool, List, [], ◌∷◌, ◌++◌, length, sym, ap, ◌∙◌, arith}
use Rattle.std.specs.Prelude.{take, drop}
use Rattle.std.proofs.Math.Nat.{two-pow-succ}
use Rattle.std.proofs.lemmas.Nat.{div-mul-add, div-add-mod'}
use Rattle.opgen_num.specs.Words.{nat}
use Rattle.opgen_num.proofs.Words.{nat-below}

-- one word above another
pub nat-append : (low high : List Bool) → nat (low ++ high) ≡ nat low + 2 ^ length low * nat high
nat-append [] high = omega arith
nat-append (b ∷ low) high =
    let half : 2 ^ suc (length low) * nat high ≡ 2 * (2 ^ length low * nat high) = ap (λ p. p * nat high) (two-pow-succ (length low))
    ∙ omega arith in
    omega (arith, nat-append low high)

-- the lowest bits, and those above them
pub nat-parts : (k : ℕ) (w : List Bool) → nat w ≡ nat (take k w) + nat (drop k w) * 2 ^ k
nat-parts zero w = omega arith
nat-parts (suc k) [] = omega arith
nat-parts (suc k) (b ∷ w) =
    let half : nat (drop k w) * 2 ^ suc k ≡ 2 * (nat (drop k w) * 2 ^ k) = ap (λ p. nat (drop k w) * p) (two-pow-succ k) ∙ omega arith in
    omega (arith, nat-parts k w)

pub take-below : (k : ℕ) (w : List Bool) → nat (take k w) < 2 ^ k
take-below zero w = omega arith
take-below (suc k) [] = omega (arith, two-pow-succ k, take-below k [])
take-below (suc k) (b ∷ w) = omega (arith, two-pow-succ k, take-below k w, nat-below (b ∷ []))

pub nat-drop : (k : ℕ) (w : List Bool) → nat w / 2 ^ k ≡ nat (drop k w)
nat-drop k w =
    let parts : nat w ≡ nat (drop k w) * 2 ^ k + nat (take k w) = omega (arith, nat-parts k w) in
    ap (λ n. n / 2 ^ k) parts ∙ div-mul-add (nat (drop k w)) (2 ^ k) (nat (take k w)) (take-below k w)

pub nat-take : (k : ℕ) (w : List Bool) → nat (take k w) ≡ nat w % 2 ^ k
nat-take k w = omega (arith, nat-parts k w, div-add-mod' (nat w) (2 ^ k), ap (λ q. q * 2 ^ k) (nat-drop k w))

-- the bits from low to high
pub nat-cut : (high low : ℕ) (w : List Bool) → nat (take (high + 1 - low) (drop low w)) ≡ nat w / 2 ^ low % 2 ^ (high + 1 - low)
nat-cut high low w = nat-take (high + 1 - low) (drop low w) ∙ ap (λ n. n % 2 ^ (high + 1 - low)) (sym (nat-drop low w))
