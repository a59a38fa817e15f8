-- Whole numbers below and above zero, and products of them, for `omega`, which takes each product as an atom.
use Rattle.std.proofs.Common.{◌≡◌, ℕ, ◌+◌, ◌*◌, ap, ◌∙◌, arith, zero, suc, ◌-◌, ◌<◌, true}
use Rattle.std.specs.Prelude.{ℤ, pos, negsuc, ◌+ℤ◌, ◌-ℤ◌, ◌*ℤ◌, ◌<ℤ◌, ◌≤ℤ◌, unsigned_abs, ◌==◌}
use Rattle.std.proofs.Math.Nat.{mul-le-mul_left}
use Rattle.std.proofs.lemmas.Int.{ints, by_lt_z}
use Rattle.std.proofs.lemmas.Bool.{eqb-true}
use borrow.Author.Differences.{up, down, sum_is_lem, product_is, same_in}

-- the distributive law, in the form that `products` takes: an integer z is read as `up z - down z`
pub product-sum_parts : (m a b : ℤ) → up (m *ℤ (a +ℤ b)) + down (m *ℤ a) + down (m *ℤ b) ≡ down (m *ℤ (a +ℤ b)) + up (m *ℤ a) + up (m *ℤ b)
product-sum_parts m a b =
    let positive : up m * (up (a +ℤ b) + down a + down b) ≡ up m * (down (a +ℤ b) + up a + up b) = ap (λ n. up m * n) (sum_is_lem a b) in
    let negative : down m * (up (a +ℤ b) + down a + down b)
    ≡ down m * (down (a +ℤ b) + up a + up b) = ap (λ n. down m * n) (sum_is_lem a b) in
    omega (arith, ints)

-- `omega (arith, products)` multiplies out products of sums
pub ruleset products = (ints, product-sum_parts)

pub product-sum : (m a b : ℤ) → m *ℤ (a +ℤ b) ≡ (m *ℤ a) +ℤ (m *ℤ b)
product-sum m a b = omega (arith, products)

pub commuted : (a b : ℤ) → a *ℤ b ≡ b *ℤ a
commuted a b = omega (arith, ints)

pub sum-product : (a b m : ℤ) → (a +ℤ b) *ℤ m ≡ (a *ℤ m) +ℤ (b *ℤ m)
sum-product a b m = commuted (a +ℤ b) m ∙ product-sum m a b ∙ omega (arith, ints)

pub product-difference : (m a b : ℤ) → m *ℤ (a -ℤ b) ≡ (m *ℤ a) -ℤ (m *ℤ b)
product-difference m a b =
    let whole : a -ℤ b +ℤ b ≡ a = omega (arith, ints) in
    omega (arith, ints, product-sum m (a -ℤ b) b, ap (λ z. m *ℤ z) whole)

pub difference-product : (a b m : ℤ) → (a *ℤ m) -ℤ (b *ℤ m) ≡ (a -ℤ b) *ℤ m
difference-product a b m = omega (arith, ints, product-difference m a b, commuted (a -ℤ b) m, commuted a m, commuted b m)

scaled_parts : (a b : ℤ) (k : ℕ) → (up (a *ℤ b) * k ≡ (up a * up b + down a * down b) * k)
    × (down (a *ℤ b) * k ≡ (up a * down b + down a * up b) * k)
scaled_parts a b k = (ap (λ n. n * k) ((product_is a b).0), ap (λ n. n * k) ((product_is a b).1))

pub product_assoc : (a b c : ℤ) → (a *ℤ b) *ℤ c ≡ a *ℤ (b *ℤ c)
product_assoc a b c =
    same_in _ _ (omega (
      arith,
      product_is,
      scaled_parts a b (up c),
      scaled_parts a b (down c),
      scaled_parts b c (up a),
      scaled_parts b c (down a),
    ))

-- a factor that is not below zero keeps the order
pub product_order : (m a b : ℤ) → pos 0 ≤ℤ m → a ≤ℤ b → (m *ℤ a) ≤ℤ (m *ℤ b)
product_order (pos m) a b g h = omega (arith, ints, mul-le-mul_left {m = up a + down b} {n = up b + down a} m (omega (arith, ints)))
product_order (negsuc m) a b g h = absurd (omega (arith, ints))

-- and a strict order of the products is one of the other factors
pub product_cancel : (m a b : ℤ) → pos 0 ≤ℤ m → (m *ℤ a) <ℤ (m *ℤ b) → a <ℤ b
product_cancel m a b g h = by_lt_z a b (λ k. k) (λ k. absurd (omega (arith, ints, product_order m b a g k)))

-- a time, less none
pub less-zero : (t : ℕ) → pos t -ℤ pos 0 ≡ pos t
less-zero t = omega (arith, ints)

-- what has no size is 0
pub zero_from_abs : (z : ℤ) → unsigned_abs z ≡ 0 → z ≡ pos 0
zero_from_abs (pos n) e = ap pos e
zero_from_abs (negsuc n) e = absurd (omega (arith, e))

pub zero-is : (z : ℤ) → (unsigned_abs z == 0) ≡ true → z ≡ pos 0
zero-is z e = zero_from_abs z (eqb-true (unsigned_abs z) 0 e)

-- a multiple of one less, and once more
pub one_more : (a b : ℕ) → 0 < b → a * (b - 1) + a ≡ a * b
one_more a zero h = absurd (omega (arith, h))
one_more a (suc b) h = let e : suc b - 1 ≡ b = omega arith in omega (arith, ap (λ n. a * n) e)
