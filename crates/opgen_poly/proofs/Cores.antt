-- A step of Horner's rule over whole numbers: how far its floor is from the exact partial value, and between which ends it is.
use Rattle.std.proofs.Common.{◌≡◌, ℕ, suc, ◌+◌, ◌*◌, ◌<◌, ◌≤◌, ap, ◌∙◌, sym, arith}
use Rattle.std.specs.Prelude.{ℤ, pos, negsuc, ◌+ℤ◌, ◌-ℤ◌, ◌*ℤ◌, ◌<ℤ◌, ◌≤ℤ◌}
use Rattle.std.specs.Int.{int_min, int_max}
use Rattle.std.proofs.Math.Nat.{mul-le-mul_left, mul-le-mul_right}
use Rattle.std.proofs.lemmas.Int.{ints, int_min_is, int_max_is}
use Rattle.opgen_num.specs.Floors.{IsFloor}
use Rattle.opgen_num.specs.Rounding.{IsWithinOne, nearest}
use Rattle.opgen_num.proofs.Floors.{one_floor}
use Rattle.opgen_num.proofs.Quotients.{within_one}
use Rattle.opgen_num.proofs.Rounded.{floor_is}
use Rattle.opgen_num.proofs.Integers.{commuted, product-sum, product-difference, product_assoc, product_order, product_cancel}

pub times : (a b : ℕ) → pos a *ℤ pos b ≡ pos (a * b)
times a b = omega (arith, ints)

-- a number that is scaled twice
pub twice : (a b : ℕ) (z : ℤ) → pos a *ℤ (pos b *ℤ z) ≡ pos (a * b) *ℤ z
twice a b z = sym (product_assoc (pos a) (pos b) z) ∙ ap (λ y. y *ℤ z) (times a b)

negated : (k : ℕ) (z : ℤ) → pos k *ℤ (pos 0 -ℤ z) ≡ pos 0 -ℤ (pos k *ℤ z)
negated k z = product-difference (pos k) (pos 0) z ∙ omega (arith, ints)

scaled : (k : ℕ) (a b : ℤ) → a ≤ℤ b → (pos k *ℤ a) ≤ℤ (pos k *ℤ b)
scaled k a b h = product_order (pos k) a b (omega (arith, ints)) h

pub same : (a b : ℕ) (z : ℤ) → a ≡ b → pos a *ℤ z ≡ pos b *ℤ z
same a b z e = ap (λ k. pos k *ℤ z) e

-- Of a step: W is 2 to the input's width, x the input, h the partial value before, A the rounded coefficient and C the exact one over d,
-- and N over D = d * P the exact partial value before. E is what the cut and the columns that are left out take or add at most.
module _ (W P d k x E : ℕ) (h y A C N : ℤ) where
  -- the exact partial value is M over D * W
  abbrev D : ℕ
  D = d * P

  abbrev pub M : ℤ
  M = (pos (P * W) *ℤ C) +ℤ (pos x *ℤ N)

  -- one side
  pub above : 0 < d * P → x ≤ W → E < W
      → (pos W *ℤ y) ≤ℤ (((pos W *ℤ A) +ℤ (pos x *ℤ h)) +ℤ pos E)
      → (pos (2 * d) *ℤ A) ≤ℤ ((pos 2 *ℤ C) +ℤ pos d)
      → (pos (2 * (d * P)) *ℤ h) ≤ℤ ((pos 2 *ℤ N) +ℤ pos (d * P * k))
      → (pos (2 * (d * P * W)) *ℤ y) <ℤ ((pos 2 *ℤ M) +ℤ pos (d * P * W * (k + 3)))
  above some narrow small cut coefficient before =
      let one = scaled (2 * D) (pos W *ℤ y) (((pos W *ℤ A) +ℤ (pos x *ℤ h)) +ℤ pos E) cut in
      let of_y = twice (2 * D) W y in
      let of_cut = product-sum (pos (2 * D)) ((pos W *ℤ A) +ℤ (pos x *ℤ h)) (pos E) in
      let of_parts = product-sum (pos (2 * D)) (pos W *ℤ A) (pos x *ℤ h) in
      let of_a = twice (2 * D) W A in
      let of_h = twice (2 * D) x h in
      let of_e = times (2 * D) E in
      let two = scaled (P * W) (pos (2 * d) *ℤ A) ((pos 2 *ℤ C) +ℤ pos d) coefficient in
      let of_a2 = twice (P * W) (2 * d) A in
      let of_c = product-sum (pos (P * W)) (pos 2 *ℤ C) (pos d) in
      let of_c2 = twice (P * W) 2 C in
      let of_d = times (P * W) d in
      let three = scaled x (pos (2 * D) *ℤ h) ((pos 2 *ℤ N) +ℤ pos (D * k)) before in
      let of_h2 = twice x (2 * D) h in
      let of_n = product-sum (pos x) (pos 2 *ℤ N) (pos (D * k)) in
      let of_n2 = twice x 2 N in
      let of_k = times x (D * k) in
      let whole = product-sum (pos 2) (pos (P * W) *ℤ C) (pos x *ℤ N) in
      let whole_c = twice 2 (P * W) C in
      let whole_n = twice 2 x N in
      let y_is = same (2 * D * W) (2 * (D * W)) y (omega arith) in
      let a_is = same (2 * D * W) (P * W * (2 * d)) A (omega arith) in
      let h_is = same (2 * D * x) (x * (2 * D)) h (omega arith) in
      let c_is = same (P * W * 2) (2 * (P * W)) C (omega arith) in
      let n_is = same (x * 2) (2 * x) N (omega arith) in
      let room : x * (D * k) ≤ W * (D * k) = mul-le-mul_right (D * k) narrow in
      let cost : 2 * D * (E + 1) ≤ 2 * D * W = mul-le-mul_left (2 * D) (omega (arith, small)) in
      let total : P * W * d + W * (D * k) + 2 * D * W ≡ D * W * (k + 3) = omega arith in
      let spread : 2 * D * (E + 1) ≡ 2 * D * E + 2 * D = omega arith in
      omega (
        arith,
        ints,
        one,
        of_y,
        of_cut,
        of_parts,
        of_a,
        of_h,
        of_e,
        two,
        of_a2,
        of_c,
        of_c2,
        of_d,
        three,
        of_h2,
        of_n,
        of_n2,
        of_k,
        whole,
        whole_c,
        whole_n,
        y_is,
        a_is,
        h_is,
        c_is,
        n_is,
        room,
        cost,
        total,
        spread,
        some,
      )

-- and the other: it is the first of the numbers below 0
pub below : (W P d k x E : ℕ) (h y A C N : ℤ) → 0 < d * P → x ≤ W → E < W
    → (((pos W *ℤ A) +ℤ (pos x *ℤ h)) -ℤ pos E) ≤ℤ (pos W *ℤ y)
    → ((pos 2 *ℤ C) -ℤ pos d) ≤ℤ (pos (2 * d) *ℤ A)
    → ((pos 2 *ℤ N) -ℤ pos (d * P * k)) ≤ℤ (pos (2 * (d * P)) *ℤ h)
    → ((pos 2 *ℤ M W P d k x E h y A C N) -ℤ pos (d * P * W * (k + 3))) <ℤ (pos (2 * (d * P * W)) *ℤ y)
below W P d k x E h y A C N some narrow small cut coefficient before =
    let minus : ℤ → ℤ = λ z. pos 0 -ℤ z in
    let partial : (pos (P * W) *ℤ minus C) +ℤ (pos x *ℤ minus N) ≡ minus (M W P d k x E h y A C N) =
    omega (arith, ints, negated (P * W) C, negated x N) in
    let other = above W P d k x E (minus h) (minus y) (minus A) (minus C) (minus N) some narrow small
    (omega (arith, ints, negated W y, negated W A, negated x h, cut))
    (omega (arith, ints, negated (2 * d) A, negated 2 C, coefficient))
    (omega (arith, ints, negated (2 * (d * P)) h, negated 2 N, before)) in
    omega (
      arith,
      ints,
      other,
      negated (2 * (d * P * W)) y,
      ap (λ z. pos 2 *ℤ z) partial,
      negated 2 (M W P d k x E h y A C N),
    )

-- The floor of a step: y is the floor of (W * A + x * h + e) / W. It stands between the ends.
module _ (W x e : ℕ) (h y A : ℤ) (narrow : x ≤ W) (small : e < W)
    (floor : IsFloor (((pos W *ℤ A) +ℤ (pos x *ℤ h)) +ℤ pos e) (pos W) y) where
  abbrev q : ℤ
  q = y -ℤ A

  some : pos 0 ≤ℤ pos W
  some = omega (arith, ints)

  of_q : pos W *ℤ q ≡ (pos W *ℤ y) -ℤ (pos W *ℤ A)
  of_q = product-difference (pos W) y A

  low_q : (pos W *ℤ q) ≤ℤ ((pos x *ℤ h) +ℤ pos e)
  low_q = omega (arith, ints, of_q, floor.0)

  next : pos W *ℤ (q +ℤ pos 1) ≡ (pos W *ℤ q) +ℤ pos W
  next = product-sum (pos W) q (pos 1) ∙ omega (arith, ints)

  high_q : ((pos x *ℤ h) +ℤ pos e) <ℤ (pos W *ℤ (q +ℤ pos 1))
  high_q = omega (arith, ints, floor.1, next, of_q, product-sum (pos W) y (pos 1))

  by_sign : (h : ℤ) → (pos W *ℤ q) ≤ℤ ((pos x *ℤ h) +ℤ pos e) → ((pos x *ℤ h) +ℤ pos e) <ℤ (pos W *ℤ (q +ℤ pos 1))
      → (int_min h (pos 0) ≤ℤ q) × (q ≤ℤ int_max h (pos 0))
  by_sign (pos n) low high =
      let natural : pos x *ℤ pos n ≡ pos (x * n) = omega (arith, ints) in
      let room : x * n ≤ W * n = mul-le-mul_right n narrow in
      let up : pos W *ℤ (pos n +ℤ pos 1) ≡ pos (W * n + W) = omega (arith, ints) in
      let zero_is : pos W *ℤ pos 0 ≡ pos 0 = omega (arith, ints) in
      let least : pos 0 <ℤ (q +ℤ pos 1) = product_cancel (pos W) (pos 0) (q +ℤ pos 1) some (omega (arith, ints, high, natural, zero_is)) in
      let most : q <ℤ (pos n +ℤ pos 1) = product_cancel (pos W) q (pos n +ℤ pos 1) some (omega (arith, ints, low, natural, room, up, small)) in
      (omega (arith, ints, least, int_min_is (pos n) (pos 0)), omega (arith, ints, most, int_max_is (pos n) (pos 0)))
  by_sign (negsuc n) low high =
      let of_x : pos x *ℤ negsuc n ≡ pos 0 -ℤ pos (x * suc n) = omega (arith, ints) in
      let of_w : pos W *ℤ negsuc n ≡ pos 0 -ℤ pos (W * suc n) = omega (arith, ints) in
      let room : x * suc n ≤ W * suc n = mul-le-mul_right (suc n) narrow in
      let one : pos W *ℤ pos 1 ≡ pos W = omega (arith, ints) in
      let least : negsuc n <ℤ (q +ℤ pos 1) = product_cancel (pos W) (negsuc n) (q +ℤ pos 1) some (omega (arith, ints, high, of_x, of_w, room)) in
      let most : q <ℤ pos 1 = product_cancel (pos W) q (pos 1) some (omega (arith, ints, low, of_x, one, small)) in
      (omega (arith, ints, least, int_min_is (negsuc n) (pos 0)), omega (arith, ints, most, int_max_is (negsuc n) (pos 0)))

  pub between : (low high : ℤ) → low ≤ℤ h → h ≤ℤ high → ((A +ℤ int_min low (pos 0)) ≤ℤ y) × (y ≤ℤ (A +ℤ int_max high (pos 0)))
  between low high at_least at_most =
      let (least, most) = by_sign h low_q high_q in (
        omega (arith, ints, least, at_least, int_min_is h (pos 0), int_min_is low (pos 0)),
        omega (arith, ints, most, at_most, int_max_is h (pos 0), int_max_is high (pos 0)),
      )

-- The output: the half ulp is added and the guard bits are cut off, which rounds the last partial value to the nearest.
module _ (W G K : ℕ) (n h y : ℤ) (halves : G ≡ K + K) (some_w : 0 < W) (some_g : 0 < G) (floor : IsFloor n (pos W) h)
    (last : IsFloor (n +ℤ pos (W * K)) (pos (W * G)) y) where
  of_y : pos W *ℤ (pos G *ℤ y) ≡ pos (W * G) *ℤ y
  of_y = twice W G y

  of_next : pos W *ℤ (pos G *ℤ (y +ℤ pos 1)) ≡ pos (W * G) *ℤ (y +ℤ pos 1)
  of_next = twice W G (y +ℤ pos 1)

  up : pos W *ℤ ((h +ℤ pos 1) +ℤ pos K) ≡ (pos W *ℤ (h +ℤ pos 1)) +ℤ pos (W * K)
  up = product-sum (pos W) (h +ℤ pos 1) (pos K) ∙ omega (arith, ints)

  down : pos W *ℤ (h +ℤ pos K) ≡ (pos W *ℤ h) +ℤ pos (W * K)
  down = product-sum (pos W) h (pos K) ∙ omega (arith, ints)

  most : (pos G *ℤ y) <ℤ ((h +ℤ pos 1) +ℤ pos K)
  most =
      product_cancel (pos W) (pos G *ℤ y) ((h +ℤ pos 1) +ℤ pos K) (omega (arith, ints))
      (omega (arith, ints, of_y, up, floor.1, last.0))

  least : (h +ℤ pos K) <ℤ (pos G *ℤ (y +ℤ pos 1))
  least =
      product_cancel (pos W) (h +ℤ pos K) (pos G *ℤ (y +ℤ pos 1)) (omega (arith, ints))
      (omega (arith, ints, of_next, down, floor.0, last.1))

  two_g : pos 2 *ℤ pos G ≡ pos (2 * G)
  two_g = omega (arith, ints)

  pub rounded-floor : IsFloor ((pos 2 *ℤ h) +ℤ pos G) (pos 2 *ℤ pos G) y
  rounded-floor = (
    omega (arith, ints, most, halves, ap (λ z. z *ℤ y) two_g, twice 2 G y),
    omega (arith, ints, least, halves, ap (λ z. z *ℤ (y +ℤ pos 1)) two_g, twice 2 G (y +ℤ pos 1)),
  )

  pub rounded-is : y ≡ nearest h (pos G)
  rounded-is =
      one_floor (pos 2 *ℤ pos G) (omega (arith, ints, some_g)) ((pos 2 *ℤ h) +ℤ pos G) y (nearest h (pos G)) rounded-floor
      (floor_is ((pos 2 *ℤ h) +ℤ pos G) (pos 2 *ℤ pos G) (omega (arith, ints, some_g)))

-- It is less than one from the exact value Q / D, where the last partial value is less than m / 2 from Q * G / D.
module _ (D G m : ℕ) (h y Q : ℤ) (some_g : 0 < G) (few : m ≤ G) (floor : IsFloor ((pos 2 *ℤ h) +ℤ pos G) (pos 2 *ℤ pos G) y)
    (high : (pos 2 *ℤ (pos D *ℤ h)) <ℤ ((pos 2 *ℤ (Q *ℤ pos G)) +ℤ pos (D * m)))
    (low : ((pos 2 *ℤ (Q *ℤ pos G)) -ℤ pos (D * m)) <ℤ (pos 2 *ℤ (pos D *ℤ h))) where
  two : pos 2 *ℤ pos G ≡ pos (2 * G)
  two = omega (arith, ints)

  room : D * m ≤ D * G
  room = mul-le-mul_left D few

  of_exact : pos (2 * G) *ℤ Q ≡ pos 2 *ℤ (Q *ℤ pos G)
  of_exact = sym (twice 2 G Q) ∙ ap (λ z. pos 2 *ℤ z) (commuted (pos G) Q)

  of_half : pos D *ℤ ((pos 2 *ℤ h) +ℤ pos G) ≡ (pos 2 *ℤ (pos D *ℤ h)) +ℤ pos (D * G)
  of_half =
      product-sum (pos D) (pos 2 *ℤ h) (pos G)
      ∙ omega (arith, ints, twice D 2 h, twice 2 D h, same (D * 2) (2 * D) h (omega arith), times D G)

  cut_high : (pos D *ℤ (pos (2 * G) *ℤ y)) ≤ℤ ((pos 2 *ℤ (pos D *ℤ h)) +ℤ pos (D * G))
  cut_high =
      omega (
        arith,
        ints,
        of_half,
        scaled D (pos (2 * G) *ℤ y) ((pos 2 *ℤ h) +ℤ pos G) (omega (arith, ints, floor.0, ap (λ z. z *ℤ y) two)),
      )

  cut_low : ((pos 2 *ℤ (pos D *ℤ h)) +ℤ pos (D * G)) ≤ℤ (pos D *ℤ (pos (2 * G) *ℤ (y +ℤ pos 1)))
  cut_low =
      omega (
        arith,
        ints,
        of_half,
        scaled D ((pos 2 *ℤ h) +ℤ pos G) (pos (2 * G) *ℤ (y +ℤ pos 1))
            (omega (arith, ints, floor.1, ap (λ z. z *ℤ (y +ℤ pos 1)) two)),
      )

  exchanged : (z : ℤ) → pos D *ℤ (pos (2 * G) *ℤ z) ≡ pos (2 * G) *ℤ (pos D *ℤ z)
  exchanged z = twice D (2 * G) z ∙ same (D * (2 * G)) (2 * G * D) z (omega arith) ∙ sym (twice (2 * G) D z)

  over : pos (2 * G) *ℤ (Q +ℤ pos D) ≡ (pos (2 * G) *ℤ Q) +ℤ pos (2 * (D * G))
  over = product-sum (pos (2 * G)) Q (pos D) ∙ omega (arith, ints)

  next_y : pos D *ℤ (y +ℤ pos 1) ≡ (pos D *ℤ y) +ℤ pos D
  next_y = product-sum (pos D) y (pos 1) ∙ omega (arith, ints)

  above_y : (pos D *ℤ y) <ℤ (Q +ℤ pos D)
  above_y =
      product_cancel (pos (2 * G)) (pos D *ℤ y) (Q +ℤ pos D) (omega (arith, ints))
      (omega (arith, ints, cut_high, high, room, of_exact, over, exchanged y))

  below_y : Q <ℤ (pos D *ℤ (y +ℤ pos 1))
  below_y =
      product_cancel (pos (2 * G)) Q (pos D *ℤ (y +ℤ pos 1)) (omega (arith, ints))
      (omega (arith, ints, cut_low, low, room, of_exact, exchanged (y +ℤ pos 1)))

  pub rounded-near : IsWithinOne Q (pos D) y
  rounded-near = within_one Q (pos D) y above_y (omega (arith, ints, below_y, next_y))
