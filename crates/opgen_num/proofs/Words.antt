-- Words and the numbers that they stand for.
use Rattle.std.proofs.Common.{◌≡◌, ℕ, ◌+◌, ◌*◌, ◌/◌, ◌%◌, ◌^◌, ◌<◌, Bool, true, false, List, [], ◌∷◌, length, eqb, refl, ap, ◌∙◌, arith, zero, suc, replicate, sym}
use Rattle.std.proofs.Math.Nat.{two-pow-succ}
use Rattle.opgen_num.specs.Words.{digit, nat, word, highest}

pub digit-below : (b : Bool) → digit b < 2
digit-below false = omega arith
digit-below true = omega arith

pub nat-below : (w : List Bool) → nat w < 2 ^ length w
nat-below [] = omega arith
nat-below (b ∷ w) = omega (arith, digit-below b, nat-below w, two-pow-succ (length w))

-- the lowest bit of a bit and the double of a number
pub low-bit : (b : Bool) (n : ℕ) → eqb ((digit b + 2 * n) % 2) 1 ≡ b
low-bit false n = let e : (0 + 2 * n) % 2 ≡ 0 = omega arith in ap (λ r. eqb r 1) e
low-bit true n = let e : (1 + 2 * n) % 2 ≡ 1 = omega arith in ap (λ r. eqb r 1) e

pub word-nat : (w : List Bool) → word (length w) (nat w) ≡ w
word-nat [] = refl
word-nat (b ∷ w) =
    let half : (digit b + 2 * nat w) / 2 ≡ nat w = omega (arith, digit-below b) in
    ap (λ x. x ∷ word (length w) ((digit b + 2 * nat w) / 2)) (low-bit b (nat w))
    ∙ ap (λ n. b ∷ word (length w) n) half
    ∙ ap (λ v. b ∷ v) (word-nat w)

-- words of one length that stand for one number are the same
pub same-word : (a b : List Bool) → length a ≡ length b → nat a ≡ nat b → a ≡ b
same-word a b l e = sym (word-nat a) ∙ ap (word (length a)) e ∙ ap (λ n. word n (nat b)) l ∙ word-nat b

-- a word of zeros
pub nat-zeros : (k : ℕ) → nat (replicate k false) ≡ 0
nat-zeros zero = refl
nat-zeros (suc k) = omega (arith, nat-zeros k)

pub highest-zeros : (k : ℕ) → highest (replicate k false) ≡ false
highest-zeros zero = refl
highest-zeros (suc zero) = refl
highest-zeros (suc (suc k)) = highest-zeros (suc k)

pub word-zeros : (k : ℕ) → word k 0 ≡ replicate k false
word-zeros zero = refl
word-zeros (suc k) = ap (λ w. false ∷ w) (word-zeros k)
