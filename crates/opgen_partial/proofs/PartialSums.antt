-- The products of the bits of two factors, and the product of their numbers.
use Rattle.std.proofs.Common.{◌≡◌, ℕ, zero, suc, ◌+◌, ◌-◌, ◌*◌, ◌^◌, ◌<◌, Bool, true, false, not, ◌&&◌, List, [], ◌∷◌, length, pow-add, refl, sym, ap, ◌∙◌, eq-eqb, ne_eqb, eqb, if◌then◌else◌, arith}
use Rattle.std.specs.Prelude.{ℤ, pos, ◌+ℤ◌, ◌-ℤ◌, ◌*ℤ◌, slice_index_or}
use Rattle.std.proofs.Math.Nat.{two-pow-succ}
use Rattle.std.proofs.lemmas.Int.{ints}
use Rattle.opgen_num.specs.Words.{xor, highest, int, digit, nat}
use Rattle.opgen_num.proofs.Integers.{commuted, product-sum}
use Rattle.opgen_budget.specs.Sums.{sum_to, sum_over_pairs}
use Rattle.opgen_budget.proofs.Sums.{sum-same, sum-plus, sum-times}
use Rattle.opgen_partial.specs.Recipe.{sign_correction}

-- a bit of a word
abbrev pub at : List Bool → ℕ → Bool
at w i = slice_index_or w i false

-- the number of the lowest bits
abbrev pub low : List Bool → ℕ → ℕ
low w k = sum_to k (λ i. digit (at w i) * 2 ^ i)

low-double : (b : Bool) (w : List Bool) (k : ℕ) → low (b ∷ w) (suc k) ≡ digit b + 2 * low w k
low-double b w zero = omega arith
low-double b w (suc k) =
    let double : digit (at w k) * 2 ^ suc k ≡ 2 * (digit (at w k) * 2 ^ k) = ap (λ n. digit (at w k) * n) (two-pow-succ k) ∙ omega arith in
    omega (arith, low-double b w k, double)

pub low-whole : (w : List Bool) → low w (length w) ≡ nat w
low-whole [] = refl
low-whole (b ∷ w) = omega (arith, low-double b w (length w), low-whole w)

-- the products of two bits, of which those with one sign are turned
abbrev pub piece : (turned : ℕ → ℕ → Bool) (a b : List Bool) (i j : ℕ) → Bool
piece turned a b i j = if turned i j then not (at a i && at b j) else (at a i && at b j)

abbrev pub pieces : (turned : ℕ → ℕ → Bool) (a b : List Bool) (i j : ℕ) → ℕ
pieces turned a b i j = digit (piece turned a b i j) * 2 ^ (i + j)

abbrev plain_bits : (a b : List Bool) (i j : ℕ) → ℕ
plain_bits a b i j = digit (at a i && at b j) * 2 ^ (i + j)

digit-both : (x y : Bool) (i j : ℕ) → digit (x && y) * 2 ^ (i + j) ≡ digit y * 2 ^ j * (digit x * 2 ^ i)
digit-both true true i j = omega (arith, pow-add 2 i j)
digit-both true false i j = omega arith
digit-both false true i j = omega arith
digit-both false false i j = omega arith

row-product : (a b : List Bool) (i n : ℕ) → sum_to n (plain_bits a b i) ≡ low b n * (digit (at a i) * 2 ^ i)
row-product a b i n =
    sum-same n (plain_bits a b i) (λ j. digit (at b j) * 2 ^ j * (digit (at a i) * 2 ^ i)) (λ j h. digit-both (at a i) (at b j) i j)
    ∙ sum-times n (λ j. digit (at b j) * 2 ^ j) (digit (at a i) * 2 ^ i)

pub plain-product : (a b : List Bool) (m n : ℕ) → sum_over_pairs m n (plain_bits a b) ≡ low a m * low b n
plain-product a b m n =
    sum-same m (λ i. sum_to n (plain_bits a b i)) (λ i. digit (at a i) * 2 ^ i * low b n) (λ i h. row-product a b i n ∙ omega arith)
    ∙ sum-times m (λ i. digit (at a i) * 2 ^ i) (low b n)

-- signed words

top-weight : (w : List Bool) (k : ℕ) → length w ≡ suc k → (nat w ≡ low w k + digit (at w k) * 2 ^ k) × (highest w ≡ at w k)
top-weight w k h = (sym (low-whole w) ∙ ap (low w) h, top w k h)
  where
    top : (w : List Bool) (k : ℕ) → length w ≡ suc k → highest w ≡ at w k
    top [] k h = absurd (omega (arith, h))
    top (b ∷ []) zero h = refl
    top (b ∷ []) (suc k) h = absurd (omega (arith, h))
    top (b ∷ c ∷ w) zero h = absurd (omega (arith, h))
    top (b ∷ c ∷ w) (suc k) h = top (c ∷ w) k (omega (arith, h))

-- a sign counts below zero
int-low : (w : List Bool) (k : ℕ) → length w ≡ suc k → int w ≡ pos (low w k) -ℤ pos (digit (at w k) * 2 ^ k)
int-low w k h = go (at w k) (highest w) (2 ^ length w) (top-weight w k h).1 (ap (λ n. 2 ^ n) h ∙ two-pow-succ k) (top-weight w k h).0
  where
    go : (b top : Bool) (power : ℕ) → top ≡ b → power ≡ 2 ^ k + 2 ^ k → nat w ≡ low w k + digit b * 2 ^ k
        → pos (nat w) -ℤ pos (if top then power else 0) ≡ pos (low w k) -ℤ pos (digit b * 2 ^ k)
    go true true power e p n = omega (arith, ints, p, n)
    go true false power e p n = absurd cc
    go false true power e p n = absurd cc
    go false false power e p n = omega (arith, ints, n)

pub powers : (m : ℕ) → sum_to m (λ i. 2 ^ i) + 1 ≡ 2 ^ m
powers zero = omega arith
powers (suc m) = omega (arith, powers m, two-pow-succ m)

turned-pair : (c : Bool) (w : ℕ) → digit (not c) * w + digit c * w ≡ w
turned-pair true w = omega arith
turned-pair false w = omega arith

abbrev turned_bits : (a b : List Bool) (i j : ℕ) → ℕ
turned_bits a b i j = digit (not (at a i && at b j)) * 2 ^ (i + j)

-- of the lowest bits of a with one bit of b, all turned
turned-column : (a b : List Bool) (n m : ℕ)
    → sum_to m (λ i. turned_bits a b i n) + low a m * (digit (at b n) * 2 ^ n) + 2 ^ n ≡ 2 ^ m * 2 ^ n
turned-column a b n m =
    let N = 2 ^ n in
    let f : ℕ → ℕ = λ i. turned_bits a b i n in
    let g : ℕ → ℕ = λ i. digit (at a i) * 2 ^ i * (digit (at b n) * N) in
    let one : sum_to m (λ i. f i + g i) ≡ sum_to m (λ i. 2 ^ i * N) =
    sum-same m (λ i. f i + g i) (λ i. 2 ^ i * N) (
    λ i h. omega (arith, digit-both (at a i) (at b n) i n, turned-pair (at a i && at b n) (2 ^ (i + n)), pow-add 2 i n)
    ) in
    let all : sum_to m (λ i. 2 ^ i * N) + N ≡ 2 ^ m * N = omega (arith, sum-times m (λ i. 2 ^ i) N, ap (λ x. x * N) (powers m)) in
    omega (arith, one, all, sum-plus m f g, sum-times m (λ i. digit (at a i) * 2 ^ i) (digit (at b n) * N))

-- of one bit of a with the lowest bits of b, all turned
turned-row : (a b : List Bool) (m n : ℕ)
    → sum_to n (turned_bits a b m) + low b n * (digit (at a m) * 2 ^ m) + 2 ^ m ≡ 2 ^ n * 2 ^ m
turned-row a b m n =
    let M = 2 ^ m in
    let f : ℕ → ℕ = turned_bits a b m in
    let g : ℕ → ℕ = λ j. digit (at b j) * 2 ^ j * (digit (at a m) * M) in
    let one : sum_to n (λ j. f j + g j) ≡ sum_to n (λ j. 2 ^ j * M) =
    sum-same n (λ j. f j + g j) (λ j. 2 ^ j * M) (
    λ j h. omega (arith, digit-both (at a m) (at b j) m j, turned-pair (at a m && at b j) (2 ^ (m + j)), pow-add 2 m j)
    ) in
    let all : sum_to n (λ j. 2 ^ j * M) + M ≡ 2 ^ n * M = omega (arith, sum-times n (λ j. 2 ^ j) M, ap (λ x. x * M) (powers n)) in
    omega (arith, one, all, sum-plus n f g, sum-times n (λ j. digit (at b j) * 2 ^ j) (digit (at a m) * M))

-- the corner, turned
turned-corner : (a b : List Bool) (m n : ℕ) → turned_bits a b m n + plain_bits a b m n ≡ 2 ^ m * 2 ^ n
turned-corner a b m n = turned-pair (at a m && at b n) (2 ^ (m + n)) ∙ pow-add 2 m n

-- the bits are turned where one is a sign, and not both
abbrev pub signs : (a b : Bool) → (m n i j : ℕ) → Bool
signs s t m n i j = xor (s && eqb (i + 1) m) (t && eqb (j + 1) n)

-- the four parts of a product: what stands below the signs, the column of the second sign, the row of the first, and the corner
module _ (s t : Bool) (a b : List Bool) (m n : ℕ) where
  abbrev of_signs : ℕ → ℕ → ℕ
  of_signs = pieces (signs s t (suc m) (suc n)) a b

  abbrev chosen_piece : (i j : ℕ) (u v : Bool) → ℕ
  chosen_piece i j u v = digit (if xor (s && u) (t && v) then not (at a i && at b j) else (at a i && at b j)) * 2 ^ (i + j)

  is_last : (k : ℕ) → eqb (k + 1) (suc k) ≡ true
  is_last k = eq-eqb (k + 1) (suc k) (omega arith)

  is_before : (i k : ℕ) → i < k → eqb (i + 1) (suc k) ≡ false
  is_before i k h = ne_eqb (i + 1) (suc k) (λ e. omega (arith, e, h))

  -- a bit product in the column of the second sign, in the row of the first sign, and in the corner
  abbrev pub column_piece : ℕ → ℕ
  column_piece i = chosen_piece i n false true

  abbrev pub row_piece : ℕ → ℕ
  row_piece j = chosen_piece m j true false

  abbrev pub corner_piece : ℕ
  corner_piece = chosen_piece m n true true

  no_sign : (i j : ℕ) → i < m → j < n → of_signs i j ≡ plain_bits a b i j
  no_sign i j h l =
      ap (λ u. chosen_piece i j u (eqb (j + 1) (suc n))) (is_before i m h)
      ∙ ap (chosen_piece i j false) (is_before j n l)
      ∙ plain s t
    where
      plain : (s t : Bool)
          → digit (if xor (s && false) (t && false) then not (at a i && at b j) else (at a i && at b j)) * 2 ^ (i + j) ≡ plain_bits a b i j
      plain true true = refl
      plain true false = refl
      plain false true = refl
      plain false false = refl

  b_sign : (i : ℕ) → i < m → of_signs i n ≡ column_piece i
  b_sign i h = ap (λ u. chosen_piece i n u (eqb (n + 1) (suc n))) (is_before i m h) ∙ ap (chosen_piece i n false) (is_last n)

  a_sign : (j : ℕ) → j < n → of_signs m j ≡ row_piece j
  a_sign j l = ap (λ u. chosen_piece m j u (eqb (j + 1) (suc n))) (is_last m) ∙ ap (chosen_piece m j true) (is_before j n l)

  two_signs : of_signs m n ≡ corner_piece
  two_signs = ap (λ u. chosen_piece m n u (eqb (n + 1) (suc n))) (is_last m) ∙ ap (chosen_piece m n true) (is_last n)

  pub four-parts : sum_over_pairs (suc m) (suc n) of_signs
      ≡ sum_over_pairs m n (plain_bits a b) + sum_to m column_piece + sum_to n row_piece + corner_piece
  four-parts =
      let rows = sum-same m (λ i. sum_to (suc n) (of_signs i)) (λ i. sum_to n (plain_bits a b i) + column_piece i) (
      λ i h. omega (arith, sum-same n (of_signs i) (plain_bits a b i) (λ j l. no_sign i j h l), b_sign i h)
      ) in
      omega (
        arith,
        rows,
        sum-plus m (λ i. sum_to n (plain_bits a b i)) column_piece,
        sum-same n (of_signs m) row_piece a_sign,
        two_signs,
      )

differences : (A X B Y : ℕ) → (pos A -ℤ pos X) *ℤ (pos B -ℤ pos Y) ≡ pos (A * B + X * Y) -ℤ pos (A * Y + X * B)
differences A X B Y =
    let a = pos A -ℤ pos X in
    let b = pos B -ℤ pos Y in
    let of_a : pos A ≡ a +ℤ pos X = omega (arith, ints) in
    let of_b : pos B ≡ b +ℤ pos Y = omega (arith, ints) in
    let one : a *ℤ pos B ≡ (a *ℤ b) +ℤ (a *ℤ pos Y) = ap (λ z. a *ℤ z) of_b ∙ product-sum a b (pos Y) in
    let two : pos B *ℤ pos A ≡ (pos B *ℤ a) +ℤ (pos B *ℤ pos X) = ap (λ z. pos B *ℤ z) of_a ∙ product-sum (pos B) a (pos X) in
    let three : pos Y *ℤ pos A ≡ (pos Y *ℤ a) +ℤ (pos Y *ℤ pos X) = ap (λ z. pos Y *ℤ z) of_a ∙ product-sum (pos Y) a (pos X) in
    omega (arith, ints, one, two, three, commuted (pos B) a, commuted (pos Y) a)

-- the number of a word, signed or not
abbrev pub number_of : Bool → List Bool → ℤ
number_of s w = if s then int w else pos (nat w)

-- The products of bits and some powers of two make the product of the words' numbers.
pub signed-product : (s t : Bool) (a b : List Bool) (m n : ℕ) → length a ≡ suc m → length b ≡ suc n
    → number_of s a *ℤ number_of t b
    ≡ pos (sum_over_pairs (suc m) (suc n) (pieces (signs s t (suc m) (suc n)) a b)) +ℤ sign_correction s t (suc m) (suc n)
signed-product s t a b m n h l = by s t (four-parts s t a b m n)
  where
    X : ℕ
    X = digit (at a m) * 2 ^ m

    Y : ℕ
    Y = digit (at b n) * 2 ^ n

    corner : plain_bits a b m n ≡ X * Y
    corner = digit-both (at a m) (at b n) m n ∙ omega arith

    M : 2 ^ (suc m - 1) ≡ 2 ^ m
    M = ap (λ k. 2 ^ k) (omega arith)

    N : 2 ^ (suc n - 1) ≡ 2 ^ n
    N = ap (λ k. 2 ^ k) (omega arith)

    P : 2 ^ (suc m + suc n - 1) ≡ 2 * (2 ^ m * 2 ^ n)
    P =
        let both : suc m + suc n - 1 ≡ suc (m + n) = omega arith in
        ap (λ k. 2 ^ k) both ∙ two-pow-succ (m + n) ∙ omega (arith, pow-add 2 m n)

    whole_a : nat a ≡ low a m + X
    whole_a = (top-weight a m h).0

    whole_b : nat b ≡ low b n + Y
    whole_b = (top-weight b n l).0

    split : nat a * nat b ≡ low a m * low b n + low a m * Y + X * low b n + X * Y
    split = ap (λ x. x * nat b) whole_a ∙ ap (λ y. (low a m + X) * y) whole_b ∙ omega arith

    column : sum_to m (λ i. plain_bits a b i n) ≡ low a m * Y
    column =
        sum-same m (λ i. plain_bits a b i n) (λ i. digit (at a i) * 2 ^ i * Y) (λ i k. digit-both (at a i) (at b n) i n ∙ omega arith)
        ∙ sum-times m (λ i. digit (at a i) * 2 ^ i) Y

    row : sum_to n (λ j. plain_bits a b m j) ≡ low b n * X
    row = row-product a b m n

    mixed : (A B C D : ℕ) → (pos A -ℤ pos B) *ℤ (pos C +ℤ pos D) ≡ pos (A * C + A * D) -ℤ pos (B * C + B * D)
    mixed A B C D =
        let none : pos 0 -ℤ pos 0 ≡ pos 0 = omega (arith, ints) in
        let one : pos C +ℤ pos D ≡ pos (C + D) -ℤ pos 0 = omega (arith, ints) in
        ap (λ z. (pos A -ℤ pos B) *ℤ z) one ∙ differences A B (C + D) 0 ∙ omega (arith, ints)

    natural_a : pos (nat a) ≡ pos (low a m) +ℤ pos X
    natural_a = omega (arith, ints, whole_a)

    natural_b : pos (nat b) ≡ pos (low b n) +ℤ pos Y
    natural_b = omega (arith, ints, whole_b)

    by : (s t : Bool)
        → sum_over_pairs (suc m) (suc n) (pieces (signs s t (suc m) (suc n)) a b)
        ≡ sum_over_pairs m n (plain_bits a b) + sum_to m (column_piece s t a b m n) + sum_to n (row_piece s t a b m n)
        + corner_piece s t a b m n
        → number_of s a *ℤ number_of t b
        ≡ pos (sum_over_pairs (suc m) (suc n) (pieces (signs s t (suc m) (suc n)) a b)) +ℤ sign_correction s t (suc m) (suc n)
    by true true parts =
        ap (λ z. z *ℤ int b) (int-low a m h)
        ∙ ap (λ z. (pos (low a m) -ℤ pos X) *ℤ z) (int-low b n l)
        ∙ differences (low a m) X (low b n) Y
        ∙ omega (arith, ints, parts, plain-product a b m n, turned-column a b n m, turned-row a b m n, corner, M, N, P)
    by true false parts =
        ap (λ z. z *ℤ pos (nat b)) (int-low a m h)
        ∙ ap (λ z. (pos (low a m) -ℤ pos X) *ℤ z) natural_b
        ∙ mixed (low a m) X (low b n) Y
        ∙ omega (arith, ints, parts, plain-product a b m n, column, turned-row a b m n, turned-corner a b m n, corner, M, N, P)
    by false true parts =
        ap (λ z. z *ℤ int b) natural_a
        ∙ ap (λ z. (pos (low a m) +ℤ pos X) *ℤ z) (int-low b n l)
        ∙ commuted (pos (low a m) +ℤ pos X) (pos (low b n) -ℤ pos Y)
        ∙ mixed (low b n) Y (low a m) X
        ∙ omega (arith, ints, parts, plain-product a b m n, row, turned-column a b n m, turned-corner a b m n, corner, M, N, P)
    by false false parts = omega (arith, ints, parts, plain-product a b m n, column, row, corner, split)
