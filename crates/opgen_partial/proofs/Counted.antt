-- Sums over pairs of bits of which each is counted once: of a square, the two orders of a pair together, and their column one higher.
use Rattle.std.proofs.Common.{◌≡◌, ℕ, zero, suc, ◌+◌, ◌-◌, ◌*◌, ◌^◌, ◌<◌, ◌≤◌, Bool, true, false, not, ◌&&◌, List, length, cond, eqb, ltb, pow-add, eq-eqb, ne_eqb, refl, sym, ap, ◌∙◌, subst, if◌then◌else◌, arith}
use Rattle.std.specs.Prelude.{ℤ, pos, neg_ℤ, ◌+ℤ◌, ◌*ℤ◌}
use Rattle.std.proofs.Math.Nat.{two-pow-succ}
use Rattle.std.proofs.lemmas.Bool.{lt-ltb, le-ltb}
use Rattle.std.proofs.lemmas.Int.{ints}
use Rattle.opgen_num.specs.Words.{xor, digit}
use Rattle.opgen_budget.specs.Sums.{sum_to, sum_over_pairs}
use Rattle.opgen_budget.proofs.Sums.{sum-same, sum-zero, sum-plus, sum-times, pairs-same, pairs-plus}
use Rattle.opgen_partial.specs.declared.pairs.Factor.{Factor}
use Rattle.opgen_partial.specs.declared.pairs.Placing.{Placing}
use Rattle.opgen_partial.specs.declared.pairs.Products.{Products}
use Rattle.opgen_partial.specs.Law.{IsPlaced, number, placed_product}
use Rattle.opgen_partial.specs.Recipe.{has_one_sign, is_sign, is_turned, own_column, is_counted, sign_correction, correction}
use Rattle.opgen_partial.proofs.PartialSums.{at, piece, pieces, powers, number_of, signs, signed-product}

-- the pairs of one place more
pairs-split : (m n : ℕ) (f : ℕ → ℕ → ℕ)
    → sum_over_pairs (suc m) (suc n) f ≡ sum_over_pairs m n f + sum_to m (λ i. f i n) + sum_to n (f m) + f m n
pairs-split m n f = omega (arith, sum-plus m (λ i. sum_to n (f i)) (λ i. f i n))

-- the two orders of summation
pub pairs-turned : (m n : ℕ) (f : ℕ → ℕ → ℕ) → sum_over_pairs m n f ≡ sum_over_pairs n m (λ j i. f i j)
pairs-turned zero n f = sym (none n)
  where
    none : (k : ℕ) → sum_over_pairs k 0 (λ j i. f i j) ≡ 0
    none zero = refl
    none (suc k) = omega (arith, none k)
pairs-turned (suc m) n f = omega (arith, pairs-turned m n f, sum-plus n (λ j. sum_to m (λ i. f i j)) (λ j. f m j))

-- as the recipe says it, by whether it is a square
abbrev own : Bool → (i j : ℕ) → ℕ
own s i j = if s && not (eqb i j) then i + j + 1 else i + j

abbrev counted : Bool → (i j : ℕ) → Bool
counted s i j = not (s && ltb j i)

module _ (d : ℕ → ℕ → ℕ) (same : (i j : ℕ) → d i j ≡ d j i) where
  abbrev full : ℕ → ℕ → ℕ
  full i j = d i j * 2 ^ (i + j)

  abbrev once : ℕ → ℕ → ℕ
  once i j = cond (counted true i j) (d i j * 2 ^ own true i j) 0

  -- above the diagonal, below it and on it

  above : (i j : ℕ) → i < j → once i j ≡ full i j + full i j
  above i j h =
      let e : i + j + 1 ≡ suc (i + j) = omega arith in
      let power : 2 ^ (i + j + 1) ≡ 2 ^ (i + j) + 2 ^ (i + j) = ap (λ k. 2 ^ k) e ∙ two-pow-succ (i + j) in
      ap (λ c. cond (not c) (d i j * 2 ^ own true i j) 0) (le-ltb j i (omega (arith, h)))
      ∙ ap (λ (c : Bool). d i j * 2 ^ (if not c then i + j + 1 else i + j)) (ne_eqb i j (λ e. omega (arith, e, h)))
      ∙ ap (λ w. d i j * w) power ∙ omega arith

  below : (i j : ℕ) → j < i → once i j ≡ 0
  below i j h = ap (λ c. cond (not c) (d i j * 2 ^ own true i j) 0) (lt-ltb j i h)

  on : (i : ℕ) → once i i ≡ full i i
  on i =
      ap (λ c. cond (not c) (d i i * 2 ^ own true i i) 0) (le-ltb i i (omega arith))
      ∙ ap (λ (c : Bool). d i i * 2 ^ (if not c then i + i + 1 else i + i)) (eq-eqb i i refl)

  full-same : (i j : ℕ) → full i j ≡ full j i
  full-same i j = let e : i + j ≡ j + i = omega arith in ap (λ k. k * 2 ^ (i + j)) (same i j) ∙ ap (λ k. d j i * 2 ^ k) e

  pub triangle : (m : ℕ) → sum_over_pairs m m once ≡ sum_over_pairs m m full
  triangle zero = refl
  triangle (suc m) =
      let column : sum_to m (λ i. once i m) ≡ sum_to m (λ i. full i m) + sum_to m (λ i. full i m) =
      sum-same m (λ i. once i m) (λ i. full i m + full i m) (λ i h. above i m h) ∙ sum-plus m (λ i. full i m) (λ i. full i m) in
      let row : sum_to m (once m) ≡ 0 = sum-same m (once m) (λ j. 0) (λ j h. below m j h) ∙ sum-zero m in
      let turned : sum_to m (full m) ≡ sum_to m (λ i. full i m) = sum-same m (full m) (λ i. full i m) (λ i h. full-same m i) in
      omega (arith, pairs-split m m once, pairs-split m m full, triangle m, column, row, turned, on m)

-- bits of all pairs, each counted once
pub counted-sum : (f : Placing) (m n : ℕ) (d : ℕ → ℕ → ℕ) → (f.square ≡ true → (m ≡ n) × ((i j : ℕ) → d i j ≡ d j i))
    → sum_over_pairs m n (λ i j. cond (is_counted f i j) (d i j * 2 ^ own_column f i j) 0) ≡ sum_over_pairs m n (λ i j. d i j * 2 ^ (i + j))
counted-sum f m n d square = by f.square square
  where
    by : (s : Bool) → (s ≡ true → (m ≡ n) × ((i j : ℕ) → d i j ≡ d j i))
        → sum_over_pairs m n (λ i j. cond (counted s i j) (d i j * 2 ^ own s i j) 0) ≡ sum_over_pairs m n (λ i j. d i j * 2 ^ (i + j))
    by false h = refl
    by true h =
        let is = h refl in
        subst (λ k. sum_over_pairs m k (λ i j. cond (counted true i j) (d i j * 2 ^ own true i j) 0)
        ≡ sum_over_pairs m k (λ i j. d i j * 2 ^ (i + j))) is.0 (triangle d is.1 m)

-- of bits and their inverses

turned-both : (u c : Bool) (w : ℕ) → digit (if u then not c else c) * w + digit (if not u then not c else c) * w ≡ w
turned-both true true w = omega arith
turned-both true false w = omega arith
turned-both false true w = omega arith
turned-both false false w = omega arith

all-weights : (m n : ℕ) → sum_over_pairs m n (λ i j. 2 ^ (i + j)) ≡ (2 ^ m - 1) * (2 ^ n - 1)
all-weights m n =
    let row : (i : ℕ) → i < m → sum_to n (λ j. 2 ^ (i + j)) ≡ 2 ^ i * (2 ^ n - 1) =
    λ i h.
    let ones : sum_to n (λ j. 2 ^ j) ≡ 2 ^ n - 1 = omega (arith, powers n) in
    sum-same n (λ j. 2 ^ (i + j)) (λ j. 2 ^ j * 2 ^ i) (λ j l. omega (arith, pow-add 2 i j))
    ∙ sum-times n (λ j. 2 ^ j) (2 ^ i) ∙ ap (λ k. k * 2 ^ i) ones ∙ omega arith in
    let ones : sum_to m (λ i. 2 ^ i) ≡ 2 ^ m - 1 = omega (arith, powers m) in
    sum-same m (λ i. sum_to n (λ j. 2 ^ (i + j))) (λ i. 2 ^ i * (2 ^ n - 1)) row
    ∙ sum-times m (λ i. 2 ^ i) (2 ^ n - 1) ∙ ap (λ k. k * (2 ^ n - 1)) ones

turned-sum : (h : ℕ → ℕ → Bool) (a b : List Bool) (m n : ℕ)
    → sum_over_pairs m n (pieces h a b) + sum_over_pairs m n (pieces (λ i j. not (h i j)) a b) ≡ (2 ^ m - 1) * (2 ^ n - 1)
turned-sum h a b m n =
    sym (pairs-plus m n (pieces h a b) (pieces (λ i j. not (h i j)) a b))
    ∙ pairs-same m n (λ i j. pieces h a b i j + pieces (λ i j. not (h i j)) a b i j) (λ i j. 2 ^ (i + j))
    (λ i j k l. turned-both (h i j) (at a i && at b j) (2 ^ (i + j)))
    ∙ all-weights m n

-- the product of the words' numbers, by the products of their bits
product_is : (s t : Bool) (a b : List Bool) (m n : ℕ) → 1 ≤ m → 1 ≤ n → length a ≡ m → length b ≡ n
    → number_of s a *ℤ number_of t b ≡ pos (sum_over_pairs m n (pieces (signs s t m n) a b)) +ℤ sign_correction s t m n
product_is s t a b zero n some_a some_b wide_a wide_b = absurd (omega (arith, some_a))
product_is s t a b (suc m) zero some_a some_b wide_a wide_b = absurd (omega (arith, some_b))
product_is s t a b (suc m) (suc n) some_a some_b wide_a wide_b = signed-product s t a b m n wide_a wide_b

xor-same : (x y : Bool) → xor x y ≡ xor y x
xor-same true true = refl
xor-same true false = refl
xor-same false true = refl
xor-same false false = refl

and-same : (x y : Bool) → x && y ≡ y && x
and-same true true = refl
and-same true false = refl
and-same false true = refl
and-same false false = refl

module _ (p : Products) (f : Placing) (placed : IsPlaced p f) (a b : List Bool)
    (some_a : 1 ≤ p.a.width) (some_b : 1 ≤ p.b.width) (wide_a : length a ≡ p.a.width) (wide_b : length b ≡ p.b.width)
    (words : f.square ≡ true → b ≡ a) where
  abbrev pub bits : ℕ → ℕ → ℕ
  bits i j = digit (piece (is_turned p f) a b i j)

  -- of a square the two orders of a pair are the same
  same-bits : f.square ≡ true → (i j : ℕ) → bits i j ≡ bits j i
  same-bits square i j =
      let g : Factor = p.a in
      let signed : (i j : ℕ) → is_turned p f i j ≡ xor f.negative (xor (is_sign p.a i) (is_sign p.a j)) =
      λ i j. ap (λ (g : Factor). xor f.negative (xor (is_sign p.a i) (is_sign g j))) (placed.same square) in
      let turns : is_turned p f i j ≡ is_turned p f j i =
      signed i j ∙ ap (xor f.negative) (xor-same (is_sign p.a i) (is_sign p.a j)) ∙ sym (signed j i) in
      let one : at a i && at b j ≡ at a j && at b i =
      ap (λ w. at a i && at w j) (words square) ∙ and-same (at a i) (at a j) ∙ ap (λ w. at a j && at w i) (sym (words square)) in
      ap (λ (c : Bool). digit (if c then not (at a i && at b j) else (at a i && at b j))) turns
      ∙ ap (λ c. digit (if is_turned p f j i then not c else c)) one

  abbrev pub once_each : ℕ
  once_each = sum_over_pairs p.a.width p.b.width (λ i j. cond (is_counted f i j) (bits i j * 2 ^ own_column f i j) 0)

  pub placed-product : placed_product p f a b ≡ pos once_each +ℤ correction p f
  placed-product =
      subst (λ k. placed_product p f a b ≡ pos k +ℤ correction p f)
      (sym (counted-sum f p.a.width p.b.width bits (λ e. (ap (λ (g : Factor). g.width) (sym (placed.same e)), same-bits e))))
      (by f.negative)
    where
      C : ℤ
      C = sign_correction p.a.signed p.b.signed p.a.width p.b.width

      P : ℤ
      P = number p.a a *ℤ number p.b b

      ones : ℕ
      ones = (2 ^ p.a.width - 1) * (2 ^ p.b.width - 1)

      plain : P ≡ pos (sum_over_pairs p.a.width p.b.width (pieces (has_one_sign p) a b)) +ℤ C
      plain = product_is p.a.signed p.b.signed a b p.a.width p.b.width some_a some_b wide_a wide_b

      by : (n : Bool)
          → (if n then neg_ℤ P else P)
          ≡ pos (sum_over_pairs p.a.width p.b.width (pieces (λ i j. xor n (has_one_sign p i j)) a b))
          +ℤ (if n then neg_ℤ (C +ℤ pos ones) else C)
      by false = plain
      by true = omega (arith, ints, plain, turned-sum (has_one_sign p) a b p.a.width p.b.width)
