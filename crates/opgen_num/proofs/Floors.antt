-- Floors and ceilings: there is one of each, they keep order, and a whole number less than one away is one of them.
use Rattle.std.proofs.Common.{◌≡◌, arith}
use Rattle.std.specs.Prelude.{ℤ, pos, ◌+ℤ◌, ◌-ℤ◌, ◌<ℤ◌, ◌≤ℤ◌}
use Rattle.std.proofs.lemmas.Int.{ints}
use Rattle.opgen_num.specs.Floors.{IsFloor, IsCeiling}
use Rattle.opgen_num.specs.Rounding.{IsWithinOne}
use Rattle.opgen_num.proofs.Integers.{products, product_cancel}
use Rattle.opgen_num.proofs.Quotients.{within_one, within_one-bounds}

module _ (m : ℤ) (positive : pos 0 <ℤ m) where
  pub floor_order : (n k f g : ℤ) → n ≤ℤ k → IsFloor n m f → IsFloor k m g → f ≤ℤ g
  floor_order n k f g order low high =
      let below : f <ℤ (g +ℤ pos 1) = product_cancel m f (g +ℤ pos 1) (omega (arith, ints)) (omega (arith, ints, low.0, high.1)) in
      omega (arith, ints)

  pub one_floor : (n f g : ℤ) → IsFloor n m f → IsFloor n m g → f ≡ g
  one_floor n f g a b =
      let there = floor_order n n f g (omega (arith, ints)) a b in
      let back = floor_order n n g f (omega (arith, ints)) b a in
      omega (arith, ints)

  pub ceiling_order : (n k c d : ℤ) → n ≤ℤ k → IsCeiling n m c → IsCeiling k m d → c ≤ℤ d
  ceiling_order n k c d order low high =
      let below : (c -ℤ pos 1) <ℤ d = product_cancel m (c -ℤ pos 1) d (omega (arith, ints)) (omega (arith, ints, low.0, high.1)) in
      omega (arith, ints)

  pub one_ceiling : (n c d : ℤ) → IsCeiling n m c → IsCeiling n m d → c ≡ d
  one_ceiling n c d a b =
      let there = ceiling_order n n c d (omega (arith, ints)) a b in
      let back = ceiling_order n n d c (omega (arith, ints)) b a in
      omega (arith, ints)

  pub floor_within_one : (n f : ℤ) → IsFloor n m f → IsWithinOne n m f
  floor_within_one n f h = within_one n m f (omega (arith, products, h.0)) (omega (arith, products, h.1))

  pub ceiling_within_one : (n c : ℤ) → IsCeiling n m c → IsWithinOne n m c
  ceiling_within_one n c h = within_one n m c (omega (arith, products, h.0)) (omega (arith, products, h.1))

  -- less than one away from a fraction lie at most its floor and its ceiling
  pub floor_below : (n f y : ℤ) → IsFloor n m f → IsWithinOne n m y → f ≤ℤ y
  floor_below n f y h near =
      let bounds = within_one-bounds n m y near in
      let above : f <ℤ (y +ℤ pos 1) = product_cancel m f (y +ℤ pos 1) (omega (arith, ints)) (omega (arith, products, h.0, bounds.1)) in
      omega (arith, ints)

  pub ceiling_above : (n c y : ℤ) → IsCeiling n m c → IsWithinOne n m y → y ≤ℤ c
  ceiling_above n c y h near =
      let bounds = within_one-bounds n m y near in
      let below : (y -ℤ pos 1) <ℤ c = product_cancel m (y -ℤ pos 1) c (omega (arith, ints)) (omega (arith, products, h.1, bounds.0)) in
      omega (arith, ints)
