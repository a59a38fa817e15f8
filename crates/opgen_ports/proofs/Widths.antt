-- Widths of ranges.
use Rattle.std.proofs.Common.{ℕ, zero, suc, ◌≤◌, arith, ◌+◌, ◌^◌, ◌<◌, max, ◌-◌, Bool, true, false}
use Rattle.std.specs.Prelude.{pos, neg_ℤ}
use Rattle.opgen_num.proofs.BitLength.{power_order}
use Rattle.opgen_num.proofs.RangeWidth.{count-least}
use Rattle.opgen_num.specs.Formats.{range_width}
use Rattle.opgen_ports.specs.declared.reach.Reach.{Reach}
use Rattle.opgen_ports.specs.Reaches.{width_of, reach_with}

-- a width has one bit or more
width_above : (below above : ℕ) → 1 ≤ width_of (record { below = below; above = above })
width_above zero above = omega arith
width_above (suc below) above = omega arith

pub some_width : (r : Reach) → 1 ≤ width_of r
some_width r = width_above r.below r.above

pub width_within : (below above k : ℕ) → below < 2 ^ k → above < 2 ^ k → range_width (neg_ℤ (pos below)) (pos above) ≤ k + 2
width_within zero above k low high = omega (arith, count-least above k high)
width_within (suc a) above k low high = omega (arith, count-least (max a above) k (omega arith))

pub narrow_reach : (signed : Bool) (width : ℕ) → width ≤ 48 → ((reach_with signed width).below ≤ 2 ^ 48)
    × ((reach_with signed width).above ≤ 2 ^ 48)
narrow_reach false width few = (omega arith, omega (arith, power_order width 48 few))
narrow_reach true width few = (
  omega (arith, power_order (width - 1) 48 (omega arith)),
  omega (
    arith,
    power_order (width - 1) 48
        (omega arith),
  ),
)

pub reach_within : (signed : Bool) (width : ℕ) → ((reach_with signed width).below ≤ 2 ^ width) × ((reach_with signed width).above ≤ 2 ^ width)
reach_within false width = (omega arith, omega arith)
reach_within true width =
    let half = power_order (width - 1) width (omega arith) in
    (omega (arith, half), omega (arith, half))

pub width_by : (below above k : ℕ) → 1 ≤ k → below < 2 ^ k → above < 2 ^ k → range_width (neg_ℤ (pos below)) (pos above) ≤ k + 1
width_by zero above k some low high = omega (arith, count-least above k high)
width_by (suc a) above k some low high = omega (arith, count-least (max a above) k (omega arith), some)
