-- Rounding down, up and to the nearest, and what it does to words.
use Rattle.std.proofs.Common.{◌≡◌, ℕ, ◌+◌, ◌/◌, ◌%◌, ◌^◌, ◌<◌, ◌≤◌, ◌⊎◌, inl, inr, Bool, List, length, drop, ap, ◌∙◌, arith}
use Rattle.std.specs.Prelude.{ℤ, pos, negsuc, neg_ℤ, ◌+ℤ◌, ◌-ℤ◌, ◌*ℤ◌, ◌<ℤ◌, ◌≤ℤ◌}
use Rattle.std.specs.Int.{int_div_euclid, int_rem_euclid}
use Rattle.std.proofs.Math.Nat.{mod-lt}
use Rattle.std.proofs.lemmas.Int.{ints, by_lt_z}
use Rattle.std.proofs.lemmas.Nat.{div-add-mod', pow-add, pow_pos}
use Rattle.opgen_num.specs.declared.format.Format.{Format}
use Rattle.opgen_num.specs.Floors.{IsFloor, IsCeiling}
use Rattle.opgen_num.specs.Formats.{Holds}
use Rattle.opgen_num.specs.Rounding.{IsWithinOne, IsNearest}
use Rattle.opgen_num.specs.Words.{val, nat}
use Rattle.opgen_num.proofs.Cuts.{nat-drop}
use Rattle.opgen_num.proofs.Floors.{one_floor}
use Rattle.opgen_num.proofs.Integers.{commuted, products, product-difference, product-sum, product_assoc}
use Rattle.opgen_num.proofs.Quotients.{quotient_and_rest, within_one-bounds}
use Rattle.opgen_num.proofs.Residues.{value_from_residue}

-- a fraction has a floor, the quotient of Euclid, and a ceiling
rest_bounds : (n m : ℤ) → pos 0 <ℤ m → (pos 0 ≤ℤ int_rem_euclid n m) × (int_rem_euclid n m <ℤ m)
rest_bounds (pos n) (pos m) h =
    let some : 0 < m = omega (arith, ints) in
    (omega (arith, ints), omega (arith, ints, mod-lt n some))
rest_bounds (negsuc n) (pos m) h =
    let some : 0 < m = omega (arith, ints) in
    (omega (arith, ints), omega (arith, ints, mod-lt n some))
rest_bounds n (negsuc m) h = absurd (omega (arith, ints))

pub floor_is : (n m : ℤ) → pos 0 <ℤ m → IsFloor n m (int_div_euclid n m)
floor_is n m h =
    let (low, high) = rest_bounds n m h in
    let whole = quotient_and_rest n m h in (
      omega (arith, products, whole, low, commuted (int_div_euclid n m) m),
      omega (arith, products, whole, high, commuted (int_div_euclid n m) m),
    )

times-zero : (m : ℤ) → m *ℤ pos 0 ≡ pos 0
times-zero m = omega (arith, ints)

turned : (n m y : ℤ) → IsFloor (neg_ℤ n) m y → IsCeiling n m (neg_ℤ y)
turned n m y (low, high) =
    let zero : m *ℤ (y +ℤ neg_ℤ y) ≡ pos 0 = ap (λ z. m *ℤ z) (omega (arith, ints)) ∙ times-zero m in
    (omega (arith, products, high, zero), omega (arith, products, low, zero))

pub ceiling_is : (n m : ℤ) → pos 0 <ℤ m → IsCeiling n m (neg_ℤ (int_div_euclid (neg_ℤ n) m))
ceiling_is n m h = turned n m (int_div_euclid (neg_ℤ n) m) (floor_is (neg_ℤ n) m h)

-- less than one away from a fraction are its floor and its ceiling alone
pub within_rounded : (n m y : ℤ) → IsWithinOne n m y → IsFloor n m y ⊎ IsCeiling n m y
within_rounded n m y near =
    let (under, over) = within_one-bounds n m y near in
    by_lt_z n (m *ℤ y)
    (λ (above : n <ℤ (m *ℤ y)). inr (omega (arith, products, under), omega (arith, ints, above)))
    (λ (below : (m *ℤ y) ≤ℤ n). inl (below, omega (arith, products, over)))

-- whole units move a floor by as many
pub floor_moved : (n m y k : ℤ) → IsFloor n m y → IsFloor (n +ℤ (m *ℤ k)) m (y +ℤ k)
floor_moved n m y k (low, high) = (omega (arith, products, low), omega (arith, products, high))

-- The nearest whole number, which is the floor of the fraction and a half, is at most half a unit away.
pub half_away : (n m y : ℤ) → IsFloor ((pos 2 *ℤ n) +ℤ m) (pos 2 *ℤ m) y
    → ((pos 2 *ℤ (m *ℤ y)) ≤ℤ ((pos 2 *ℤ n) +ℤ m)) × (((pos 2 *ℤ n) -ℤ m) <ℤ (pos 2 *ℤ (m *ℤ y)))
half_away n m y (low, high) =
    let same = product_assoc (pos 2) m y in
    let more = product_assoc (pos 2) m (y +ℤ pos 1) in (
      omega (arith, ints, low, same),
      omega (
        arith,
        products,
        high,
        same,
        more,
        ap (λ z. pos 2 *ℤ z) (product-sum m y (pos 1)),
        product-sum
            (pos 2) (m *ℤ y) (m *ℤ pos 1),
      ),
    )

-- A word has the value y where its bits are a remainder, as those of the sum of a heap, of what is y up to multiples of 2 to the
-- width, and y is in the range of the width.
pub value_from_remainder : (w : List Bool) (format : Format) (total : ℕ) (y k : ℤ) → 1 ≤ length w → nat w ≡ total % 2 ^ length w
    → y +ℤ (pos (2 ^ length w) *ℤ k) ≡ pos total → Holds format.signed (length w) y → val w format ≡ y
value_from_remainder w format total y k some e is range =
    let P = 2 ^ length w in
    let whole = div-add-mod' total P in
    let less = product-difference (pos P) k (pos (total / P)) in
    value_from_residue w format y (k -ℤ pos (total / P)) some (omega (arith, ints, e, is, whole, less)) range

floor_of_parts : (n m q j r : ℤ) → n ≡ ((m *ℤ q) -ℤ (m *ℤ j)) +ℤ r → pos 0 ≤ℤ r → r <ℤ m → IsFloor n m (q -ℤ j)
floor_of_parts n m q j r whole low high =
    let less = product-difference m q j in
    (omega (arith, ints, whole, less, low), omega (arith, products, whole, less, high, product-sum m (q -ℤ j) (pos 1)))

-- Without their lowest bits, the bits of a word have the residue of the floor of what they had the residue of.
pub floor_dropped : (low high : ℕ) (w : List Bool) (n k y : ℤ) → length w ≡ low + high → n +ℤ (pos (2 ^ length w) *ℤ k) ≡ pos (nat w)
    → IsFloor n (pos (2 ^ low)) y → y +ℤ (pos (2 ^ high) *ℤ k) ≡ pos (nat (drop low w))
floor_dropped low high w n k y len e is =
    let P = 2 ^ low in
    let q = nat w / P in
    let whole = div-add-mod' (nat w) P in
    let power : pos (2 ^ length w) ≡ pos P *ℤ pos (2 ^ high) = ap (λ m. pos (2 ^ m)) len ∙ ap pos (pow-add 2 low high)
    ∙ omega (arith, ints) in
    let split : pos (2 ^ length w) *ℤ k ≡ pos P *ℤ (pos (2 ^ high) *ℤ k) = ap (λ z. z *ℤ k) power
    ∙ product_assoc (pos P) (pos (2 ^ high)) k in
    let floor : IsFloor n (pos P) (pos q -ℤ (pos (2 ^ high) *ℤ k)) =
    floor_of_parts n (pos P) (pos q) (pos (2 ^ high) *ℤ k) (pos (nat w % P)) (omega (arith, ints, e, whole, split)) (omega (arith, ints))
    (omega (arith, ints, mod-lt (nat w) (pow_pos low))) in
    let same = one_floor (pos P) (omega (arith, ints, pow_pos low)) n y (pos q -ℤ (pos (2 ^ high) *ℤ k)) is floor in
    omega (arith, ints, same, ap pos (nat-drop low w))

-- the floor and the nearest number of a fraction, by its quotient and rest
module _ (n m q r : ℤ) (positive : pos 0 <ℤ m) (whole : ((q *ℤ m) +ℤ r) ≡ n) (low : pos 0 ≤ℤ r) (high : r <ℤ m) where
  pub quotient_is_floor : IsFloor n m q
  quotient_is_floor =
      (omega (arith, products, whole, low, commuted q m), omega (arith, products, whole, high, commuted q m))

  pub nearest_above : (m -ℤ r) ≤ℤ r → IsNearest n m (q +ℤ pos 1)
  nearest_above half =
      let same = product_assoc (pos 2) m (q +ℤ pos 1) in
      let more = product_assoc (pos 2) m ((q +ℤ pos 1) +ℤ pos 1) in (
        omega (arith, products, whole, half, same, commuted q m),
        omega (arith, products, whole, high, more, commuted q m),
      )

  pub nearest_below : r <ℤ (m -ℤ r) → IsNearest n m q
  nearest_below half =
      let same = product_assoc (pos 2) m q in
      let more = product_assoc (pos 2) m (q +ℤ pos 1) in (
        omega (arith, products, whole, low, same, commuted q m, positive),
        omega (arith, products, whole, half, more, commuted q m),
      )
