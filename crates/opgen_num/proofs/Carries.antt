-- Sums of words with a last carry.
use Rattle.std.proofs.Common.{◌≡◌, ℕ, ◌+◌, ◌*◌, ◌^◌, Bool, true, false, List, [], ◌∷◌, length, map, refl, ap, ◌∙◌, arith, not}
use Rattle.std.proofs.Math.Nat.{two-pow-succ}
use Rattle.opgen_num.specs.Words.{digit, nat, xor, majority, sum_with}

-- with a last carry: the sum of two words and a carry
pub sum-carry : (k : Bool) (a b : List Bool) → length a ≡ length b
    → (c : ℕ) × (nat (sum_with k a b) + 2 ^ length a * c ≡ nat a + nat b + digit k)
sum-carry k [] [] h = (digit k, omega arith)
sum-carry k [] (y ∷ b) h = absurd (omega (arith, h))
sum-carry k (x ∷ a) [] h = absurd (omega (arith, h))
sum-carry k (x ∷ a) (y ∷ b) h =
    let rest = sum-carry (majority x y k) a b (omega (arith, h)) in
    let double : 2 ^ length (x ∷ a) * rest.0 ≡ 2 ^ length a * rest.0 + 2 ^ length a * rest.0 =
    ap (λ n. n * rest.0) (two-pow-succ (length a)) ∙ omega arith in
    (rest.0, omega (arith, rest.1, double, digits x y k))
  where
    digits : (x y k : Bool) → digit (xor (xor x y) k) + 2 * digit (majority x y k) ≡ digit x + digit y + digit k
    digits true true true = refl
    digits true true false = refl
    digits true false true = refl
    digits true false false = refl
    digits false true true = refl
    digits false true false = refl
    digits false false true = refl
    digits false false false = refl

-- a word and its turned bits are together all ones
pub nat-not : (w : List Bool) → nat (map not w) + nat w + 1 ≡ 2 ^ length w
nat-not [] = omega arith
nat-not (true ∷ w) = omega (arith, nat-not w, two-pow-succ (length w))
nat-not (false ∷ w) = omega (arith, nat-not w, two-pow-succ (length w))
