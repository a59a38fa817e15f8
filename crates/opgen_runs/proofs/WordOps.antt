-- Operations on words by the numbers that they stand for.
use Rattle.std.proofs.Common.{◌≡◌, ℕ, zero, suc, ◌+◌, ◌-◌, ◌*◌, ◌/◌, ◌%◌, ◌^◌, ◌≤◌, Bool, true, false, not, ◌&&◌, ◌||◌, min, max, List, [], ◌∷◌, ◌++◌, length, map, take, eqb, refl, sym, ap, ◌∙◌, arith, zero-add}
use Rattle.std.proofs.Math.Nat.{two-pow-succ}
use Rattle.std.specs.Prelude.{bit_and, bit_or, bit_xor}
use lib.Bits.{and_step, or_step, xor_step, differ}
use Rattle.std.proofs.lemmas.Nat.{mod-pow-add}
use Rattle.opgen_num.specs.Words.{digit, nat, word, pairwise, sum_with, xor, majority}
use Rattle.opgen_num.specs.WordLaws.{digit-low}
use Rattle.opgen_num.proofs.Words.{digit-below, low-bit, nat-below, word-nat}

-- a bit below the bits of a number
pub word-suc : (w n r q : ℕ) (b : Bool) → n ≡ r + 2 * q → r ≡ digit b → word (suc w) n ≡ b ∷ word w q
word-suc w n r q b e d =
    let low : n % 2 ≡ (digit b + 2 * q) % 2 = ap (λ x. x % 2) (e ∙ ap (λ x. x + 2 * q) d) in
    let half : n / 2 ≡ q = omega (arith, e, d, digit-below b) in
    ap (λ x. eqb x 1 ∷ word w (n / 2)) low ∙ ap (λ x. x ∷ word w (n / 2)) (low-bit b q) ∙ ap (λ x. b ∷ word w x) half

-- bit by bit
module _ (op : ℕ → ℕ → ℕ) (low : ℕ → ℕ → ℕ) (f : Bool → Bool → Bool)
    (step : (a b : ℕ) → op a b ≡ op (a / 2) (b / 2) * 2 + low (a % 2) (b % 2))
    (bits : (x y : Bool) → low (digit x) (digit y) ≡ digit (f x y)) where
  pub bitwise : (a b : List Bool) → length a ≡ length b → word (length a) (op (nat a) (nat b)) ≡ pairwise f a b
  bitwise [] b h = refl
  bitwise (x ∷ a) [] h = absurd (omega (arith, h))
  bitwise (x ∷ a) (y ∷ b) h =
      let n = digit x + 2 * nat a in
      let m = digit y + 2 * nat b in
      let n2 : n / 2 ≡ nat a = omega (arith, digit-below x) in
      let m2 : m / 2 ≡ nat b = omega (arith, digit-below y) in
      let n1 : n % 2 ≡ digit x = omega (arith, digit-below x) in
      let m1 : m % 2 ≡ digit y = omega (arith, digit-below y) in
      let e1 : op (n / 2) (m / 2) ≡ op (nat a) (nat b) = ap (λ v. op v (m / 2)) n2 ∙ ap (op (nat a)) m2 in
      let e2 : low (n % 2) (m % 2) ≡ digit (f x y) = ap (λ v. low v (m % 2)) n1 ∙ ap (low (digit x)) m1 ∙ bits x y in
      let e : op n m ≡ digit (f x y) + 2 * op (nat a) (nat b) = omega (arith, step n m, e1, e2) in
      word-suc (length a) (op n m) (digit (f x y)) (op (nat a) (nat b)) (f x y) e refl
      ∙ ap (λ v. f x y ∷ v) (bitwise a b (omega (arith, h)))

and-bits : (x y : Bool) → min (digit x) (digit y) ≡ digit (x && y)
and-bits false false = refl
and-bits false true = refl
and-bits true false = refl
and-bits true true = refl

or-bits : (x y : Bool) → max (digit x) (digit y) ≡ digit (x || y)
or-bits false false = refl
or-bits false true = refl
or-bits true false = refl
or-bits true true = refl

xor-bits : (x y : Bool) → differ (digit x) (digit y) ≡ digit (xor x y)
xor-bits false false = refl
xor-bits false true = refl
xor-bits true false = refl
xor-bits true true = refl

pub word-and : (a b : List Bool) → length a ≡ length b → word (length a) (bit_and (nat a) (nat b)) ≡ pairwise ◌&&◌ a b
word-and = bitwise bit_and min ◌&&◌ and_step and-bits

pub word-or : (a b : List Bool) → length a ≡ length b → word (length a) (bit_or (nat a) (nat b)) ≡ pairwise ◌||◌ a b
word-or = bitwise bit_or max ◌||◌ or_step or-bits

pub word-xor : (a b : List Bool) → length a ≡ length b → word (length a) (bit_xor (nat a) (nat b)) ≡ pairwise xor a b
word-xor = bitwise bit_xor differ xor xor_step xor-bits

pub word-not : (a : List Bool) (ones : ℕ) → ones + 1 ≡ 2 ^ length a → word (length a) (ones - nat a) ≡ map not a
word-not [] ones h = refl
word-not (true ∷ a) ones h =
    let p = two-pow-succ (length a) in
    let below = nat-below a in
    let half : ones / 2 + 1 ≡ 2 ^ length a = omega (arith, h, p) in
    let e : ones - (1 + 2 * nat a) ≡ 0 + 2 * (ones / 2 - nat a) = omega (arith, h, p, below) in
    word-suc (length a) (ones - (1 + 2 * nat a)) 0 (ones / 2 - nat a) false e refl ∙ ap (λ v. false ∷ v) (word-not a (ones / 2) half)
word-not (false ∷ a) ones h =
    let p = two-pow-succ (length a) in
    let below = nat-below a in
    let half : ones / 2 + 1 ≡ 2 ^ length a = omega (arith, h, p) in
    let e : ones - (0 + 2 * nat a) ≡ 1 + 2 * (ones / 2 - nat a) = omega (arith, h, p, below) in
    word-suc (length a) (ones - (0 + 2 * nat a)) 1 (ones / 2 - nat a) true e refl ∙ ap (λ v. true ∷ v) (word-not a (ones / 2) half)

-- the first of two numbers stands above the second
pub word-append : (a b : List Bool) → word (length a + length b) (nat b * 2 ^ length a + nat a) ≡ a ++ b
word-append [] b = let e : nat b * 2 ^ 0 + 0 ≡ nat b = omega arith in ap (word (0 + length b)) e
    ∙ ap (λ n. word n (nat b)) (zero-add (length b)) ∙ word-nat b
word-append (x ∷ a) b =
    let e : nat b * 2 ^ suc (length a) + (digit x + 2 * nat a)
    ≡ digit x + 2 * (nat b * 2 ^ length a + nat a) = omega
    (arith, two-pow-succ (length a), ap (λ n. nat b * n) (two-pow-succ (length a))) in
    let n : suc (length a) + length b ≡ suc (length a + length b) = omega arith in
    ap (λ k. word k (nat b * 2 ^ suc (length a) + (digit x + 2 * nat a))) n
    ∙ word-suc (length a + length b) (nat b * 2 ^ suc (length a) + (digit x + 2 * nat a)) (digit x) (nat b * 2 ^ length a + nat a) x e refl
    ∙ ap (λ v. x ∷ v) (word-append a b)

-- the carry and the sum of three bits
bits-sum : (k x y : Bool) → digit k + digit x + digit y ≡ digit (xor (xor x y) k) + 2 * digit (majority x y k)
bits-sum false false false = refl
bits-sum false false true = refl
bits-sum false true false = refl
bits-sum false true true = refl
bits-sum true false false = refl
bits-sum true false true = refl
bits-sum true true false = refl
bits-sum true true true = refl

pub word-sum : (k : Bool) (a b : List Bool) → length a ≡ length b → word (length a) (nat a + nat b + digit k) ≡ sum_with k a b
word-sum k [] b h = refl
word-sum k (x ∷ a) [] h = absurd (omega (arith, h))
word-sum k (x ∷ a) (y ∷ b) h =
    let c = majority x y k in
    let e : (digit x + 2 * nat a) + (digit y + 2 * nat b) + digit k
    ≡ digit (xor (xor x y) k) + 2 * (nat a + nat b + digit c) = omega (arith, bits-sum k x y) in
    word-suc (length a) ((digit x + 2 * nat a) + (digit y + 2 * nat b) + digit k) (digit (xor (xor x y) k)) (nat a + nat b + digit c)
    (xor (xor x y) k) e refl
    ∙ ap (λ v. xor (xor x y) k ∷ v) (word-sum c a b (omega (arith, h)))

-- a word has the lowest bits of a number
pub word-mod : (w n : ℕ) → word w (n % 2 ^ w) ≡ word w n
word-mod zero n = refl
word-mod (suc w) n =
    let p = two-pow-succ w in
    let a = mod-pow-add n w 1 in
    let k : w + 1 ≡ suc w = omega arith in
    let e : n % 2 ^ suc w ≡ n % 2 + 2 * (n / 2 % 2 ^ w) = ap (λ j. n % 2 ^ j) (sym k) ∙ a ∙ omega arith in
    word-suc w (n % 2 ^ suc w) (n % 2) (n / 2 % 2 ^ w) (eqb (n % 2) 1) e (sym (digit-low n))
    ∙ ap (λ v. eqb (n % 2) 1 ∷ v) (word-mod w (n / 2))

pub word-take : (k : ℕ) (v : List Bool) → k ≤ length v → word k (nat v) ≡ take k v
word-take zero v h = refl
word-take (suc k) [] h = absurd (omega (arith, h))
word-take (suc k) (x ∷ v) h = word-suc k (digit x + 2 * nat v) (digit x) (nat v) x refl refl
    ∙ ap (λ u. x ∷ u) (word-take k v (omega (arith, h)))
