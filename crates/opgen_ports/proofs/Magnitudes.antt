-- Magnitudes of products, and what fits 128 bits.
use Rattle.std.proofs.Common.{◌≡◌, ◌*◌, arith, ℕ, ◌+◌, ◌^◌, ◌≤◌, FitsSigned, ◌-◌, Bool, true, false}
use Rattle.std.proofs.lemmas.Int.{ints}
use Rattle.std.proofs.lemmas.Nat.{pow_pos}
use Rattle.std.specs.Int.{w128}
use Rattle.std.specs.Prelude.{ℤ, pos, negsuc, ◌*ℤ◌, unsigned_abs}
use Rattle.opgen_num.proofs.BitLength.{power_order}
use Rattle.opgen_num.specs.declared.format.Format.{Format}
use Rattle.opgen_num.specs.Formats.{Holds}
use Rattle.opgen_ports.specs.Ranges.{IsInput}
use Rattle.opgen_ports.specs.Spans.{IsOf}
use Rattle.opgen_ports.proofs.Bounds.{products}

pub unsigned_abs-product : (a b : ℤ) → unsigned_abs (a *ℤ b) ≡ unsigned_abs a * unsigned_abs b
unsigned_abs-product (pos a) (pos b) = omega (arith, ints)
unsigned_abs-product (pos a) (negsuc b) = omega (arith, ints)
unsigned_abs-product (negsuc a) (pos b) = omega (arith, ints)
unsigned_abs-product (negsuc a) (negsuc b) = omega (arith, ints)

pub product_within : (a b : ℤ) (i j : ℕ) → unsigned_abs a ≤ 2 ^ i → unsigned_abs b ≤ 2 ^ j → unsigned_abs (a *ℤ b) ≤ 2 ^ (i + j)
product_within a b i j first second = omega (arith, unsigned_abs-product a b, products (unsigned_abs a) (unsigned_abs b) i j first second)

-- a number raised by some places
pub raised_within : (n : ℤ) (i places most : ℕ) → unsigned_abs n ≤ 2 ^ i → places ≤ most
    → unsigned_abs (n *ℤ pos (2 ^ places)) ≤ 2 ^ (i + most)
raised_within n i places most small few = product_within n (pos (2 ^ places)) i most small (power_order places most few)

pub fits_small : (n : ℤ) → unsigned_abs n ≤ 2 ^ 126 → FitsSigned w128 n
fits_small n h = omega (arith, ints)

-- a number of a width
pub holds_within : (signed : Bool) (width : ℕ) (n : ℤ) → Holds signed width n → unsigned_abs n ≤ 2 ^ width
holds_within false width n (low, high) = omega (arith, ints)
holds_within true width n (low, high) = omega (arith, ints, power_order (width - 1) width (omega arith))

pub number_small : (f : Format) (n : ℤ) → IsInput f → IsOf f n → unsigned_abs n ≤ 2 ^ 48
number_small f n fits of = omega (arith, holds_within f.signed f.width n of, power_order f.width 48 fits.most)

pub number_fits : (f : Format) (n : ℤ) → IsInput f → IsOf f n → FitsSigned w128 n
number_fits f n fits of = fits_small n (omega (arith, number_small f n fits of))

-- 0 is a number of every format
zero_held : (signed : Bool) (width : ℕ) → Holds signed width (pos 0)
zero_held false width = (omega (arith, ints), omega (arith, ints, pow_pos width))
zero_held true width = (omega (arith, ints), omega (arith, ints, pow_pos (width - 1)))

pub zero_of : (f : Format) → IsOf f (pos 0)
zero_of f = zero_held f.signed f.width
