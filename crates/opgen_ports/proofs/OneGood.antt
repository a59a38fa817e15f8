-- In each mode but the faithful one a fraction has one good number alone. In each mode a good number is the floor or the next.
use Rattle.std.proofs.Common.{◌≡◌, ◌⊎◌, inl, inr, arith}
use Rattle.std.proofs.lemmas.Int.{ints, by_lt_z}
use Rattle.std.specs.Prelude.{◌≢◌, refl, ℤ, pos, ◌+ℤ◌, ◌*ℤ◌, ◌<ℤ◌}
use Rattle.opgen_num.specs.declared.mode.Mode.{Mode}
use Rattle.opgen_num.specs.declared.mode.Mode.TheVariants.{Exact, Faithful, Down, Nearest}
use Rattle.opgen_num.specs.Floors.{IsFloor}
use Rattle.opgen_num.specs.Rounding.{IsExact, IsGoodLinear}
use Rattle.opgen_num.proofs.Floors.{one_floor}
use Rattle.opgen_num.proofs.Integers.{products, product_cancel}
use Rattle.opgen_num.proofs.Quotients.{within_one-bounds}
use Rattle.opgen_num.proofs.Rounded.{half_away}

floor_of_exact : (n m y : ℤ) → pos 0 <ℤ m → IsExact n m y → IsFloor n m y
floor_of_exact n m y some is = (omega (arith, ints, is), omega (arith, products, is, some))

pub one_good : (mode : Mode) (n m y z : ℤ) → pos 0 <ℤ m → mode ≢ Faithful → IsGoodLinear n m y mode → IsGoodLinear n m z mode → y ≡ z
one_good Exact n m y z some other first second = one_floor m some n y z (floor_of_exact n m y some first) (floor_of_exact n m z some second)
one_good Faithful n m y z some other first second = absurd (other refl)
one_good Down n m y z some other first second = one_floor m some n y z first second
one_good Nearest n m y z some other first second = one_floor (pos 2 *ℤ m) (omega (arith, ints, some)) _ y z first second

module _ (n m f y : ℤ) (some : pos 0 <ℤ m) (floor : IsFloor n m f) where
  -- a number that is less than one below the floor and less than two above it
  floor_or_next : (m *ℤ f) <ℤ ((m *ℤ y) +ℤ m) → (m *ℤ y) <ℤ ((m *ℤ f) +ℤ (m *ℤ pos 2)) → (y ≡ f) ⊎ (y ≡ f +ℤ pos 1)
  floor_or_next low high =
      let above : f <ℤ (y +ℤ pos 1) = product_cancel m f (y +ℤ pos 1) (omega (arith, ints)) (omega (arith, products, low)) in
      let below : y <ℤ (f +ℤ pos 2) = product_cancel m y (f +ℤ pos 2) (omega (arith, ints)) (omega (arith, products, high)) in
      by_lt_z f y (λ h. inr (omega (arith, ints))) (λ h. inl (omega (arith, ints)))

  pub good_is_floor_or_next : (mode : Mode) → IsGoodLinear n m y mode → (y ≡ f) ⊎ (y ≡ f +ℤ pos 1)
  good_is_floor_or_next Exact good = inl (one_floor m some n y f (floor_of_exact n m y some good) floor)
  good_is_floor_or_next Faithful good =
      let (under, over) = within_one-bounds n m y good in
      floor_or_next (omega (arith, products, floor.0, over)) (omega (arith, products, floor.1, under))
  good_is_floor_or_next Down good = inl (one_floor m some n y f good floor)
  good_is_floor_or_next Nearest good =
      let (under, over) = half_away n m y good in
      floor_or_next (omega (arith, products, floor.0, over, some)) (omega (arith, products, floor.1, under, some))
