-- The format that covers a range holds its numbers.
use Rattle.std.proofs.Common.{ℕ, arith, ◌≡◌, zero, suc, nat_lt, refl, Bool, true, false, ◌^◌}
use Rattle.std.proofs.lemmas.Int.{ints}
use Rattle.std.specs.Prelude.{ℤ, pos, neg_ℤ, ◌+ℤ◌, ◌*ℤ◌, ◌≤ℤ◌, ◌<ℤ◌}
use Rattle.opgen_num.proofs.Integers.{products, product_cancel}
use Rattle.opgen_num.proofs.Quotients.{within_one-bounds}
use Rattle.opgen_num.proofs.RangeWidth.{range_width-least}
use Rattle.opgen_num.specs.Formats.{is_negative, Holds, range_width}
use Rattle.opgen_num.specs.Rounding.{IsWithinOne}
use Rattle.opgen_ports.specs.declared.reach.Reach.{Reach}
use Rattle.opgen_ports.specs.Ports.{covering}
use Rattle.opgen_ports.specs.Spans.{IsOf}
use Rattle.opgen_ports.proofs.Reached.{IsWithinReach}

-- a fraction that lies in a range is rounded into it
pub rounded_within : (n m : ℤ) (below above : ℕ) (y : ℤ) → pos 0 <ℤ m → (m *ℤ neg_ℤ (pos below)) ≤ℤ n → n ≤ℤ (m *ℤ pos above)
    → IsWithinOne n m y → IsWithinReach below above y
rounded_within n m below above y positive low high near =
    let (under, over) = within_one-bounds n m y near in
    let most : y <ℤ (pos above +ℤ pos 1) = product_cancel m y (pos above +ℤ pos 1) (omega (arith, ints))
    (omega (arith, products, under, high)) in
    let least : neg_ℤ (pos below) <ℤ (y +ℤ pos 1) = product_cancel m (neg_ℤ (pos below)) (y +ℤ pos 1) (omega (arith, ints))
    (omega (arith, products, over, low)) in
    (omega (arith, ints), omega (arith, ints))

-- the format that covers a range holds its numbers
pub is_below : (below : ℕ) → is_negative (neg_ℤ (pos below)) ≡ nat_lt 0 below
is_below zero = refl
is_below (suc n) = grind (arith, ints)

pub covered : (r : Reach) (lsb y : ℤ) → IsWithinReach r.below r.above y → IsOf (covering r lsb) y
covered r lsb y (low, high) =
    let lo = neg_ℤ (pos r.below) in
    let hi = pos r.above in
    let all = (range_width-least lo hi (omega (arith, ints))).0 in
    rw (← is_below r.below) (go (is_negative lo) (range_width lo hi) all.1 all.2)
  where
    go : (signed : Bool) (width : ℕ) → Holds signed width (neg_ℤ (pos r.below)) → Holds signed width (pos r.above) → Holds signed width y
    go true width first second = (omega (arith, ints, first.0, low), omega (arith, ints, second.1, high))
    go false width first second = (omega (arith, ints, first.0, low), omega (arith, ints, second.1, high))

pub unsigned_of : (signed : Bool) (width : ℕ) (n : ℤ) → signed ≡ false → Holds signed width n → (pos 0 ≤ℤ n) × (n <ℤ pos (2 ^ width))
unsigned_of false width n e (low, high) = (low, omega (arith, ints))
unsigned_of true width n e h = cc
