-- Bringing a value and a number into one range takes neither further from the other, and a number that wraps stays one of the values'.
use Rattle.std.proofs.Common.{◌≡◌, sym, subst, arith}
use Rattle.std.specs.Prelude.{ℤ, pos, ◌+ℤ◌, ◌*ℤ◌, ◌<ℤ◌, ◌≤ℤ◌}
use Rattle.std.proofs.lemmas.Int.{ints}
use Rattle.opgen_num.specs.declared.format.Format.{Format}
use Rattle.opgen_num.specs.declared.mode.Mode.{Mode}
use Rattle.opgen_num.specs.declared.mode.Mode.TheVariants.{Exact, Faithful, Down, Nearest}
use Rattle.opgen_num.specs.declared.mode.Overflow.{Overflow}
use Rattle.opgen_num.specs.declared.mode.Overflow.TheVariants.{Saturate, Wrap}
use Rattle.opgen_num.specs.Floors.{IsFloor}
use Rattle.opgen_num.specs.Rounding.{IsGoodLinear, IsNearest}
use Rattle.opgen_num.specs.Formats.{Holds}
use Rattle.opgen_num.proofs.Integers.{products, product_assoc, product_order}
use Rattle.opgen_num.proofs.Quotients.{within_one, within_one-bounds}
use Rattle.opgen_ports.proofs.Clamped.{Lies, under, over, inside, lies, in_order}
use Rattle.opgen_ports.specs.Good.{into_range, least_of, greatest_of, saturated, IsGoodChosen, IsGoodSaturated}
use Rattle.opgen_saturate.specs.Converts.{Becomes}
use Rattle.opgen_saturate.specs.Law.{SaturationKeepsGood, WrappingKeepsGood}
use Rattle.opgen_saturate.proofs.Decision.{stays}

module _ (m : ℤ) (some : pos 0 <ℤ m) where
  order : (a b : ℤ) → a ≤ℤ b → (m *ℤ a) ≤ℤ (m *ℤ b)
  order a b h = product_order m a b (omega (arith, ints)) h

  strict : (a b : ℤ) → a <ℤ b → ((m *ℤ a) +ℤ m) ≤ℤ (m *ℤ b)
  strict a b h = let next = order (a +ℤ pos 1) b (omega (arith, ints)) in omega (arith, products, next)

  module _ (low high n y : ℤ) (some_range : low ≤ℤ high) where
    -- less than one unit apart: below it by less than a unit, and above it by less than one
    module _ (near_low : (m *ℤ y) <ℤ (n +ℤ m)) (near_high : n <ℤ ((m *ℤ y) +ℤ m)) where
      apart : Lies low high y → Lies (m *ℤ low) (m *ℤ high) n
          → ((m *ℤ into_range low high y) <ℤ (into_range (m *ℤ low) (m *ℤ high) n +ℤ m))
          × (into_range (m *ℤ low) (m *ℤ high) n <ℤ ((m *ℤ into_range low high y) +ℤ m))
      apart (under h e) (under g f) = rw (e, f) (omega (arith, ints), omega (arith, ints))
      apart (under h e) (over k g f) = absurd (omega (arith, ints, strict y low h, order low high some_range))
      apart (under h e) (inside k g f) =
          rw (e, f) (omega (arith, ints, strict y low h), omega (arith, ints, strict y low h))
      apart (over k h e) (under g f) = absurd (omega (arith, ints, strict high y h, order low high some_range))
      apart (over k h e) (over j g f) = rw (e, f) (omega (arith, ints), omega (arith, ints))
      apart (over k h e) (inside j g f) =
          rw (e, f) (omega (arith, ints, strict high y h), omega (arith, ints, strict high y h))
      apart (inside k h e) (under g f) = rw (e, f) (omega (arith, ints, order low y k), omega (arith, ints, order low y k))
      apart (inside k h e) (over j g f) = rw (e, f) (omega (arith, ints, order y high h), omega (arith, ints, order y high h))
      apart (inside k h e) (inside j g f) = rw (e, f) (omega (arith, ints), omega (arith, ints))

    -- equal
    module _ (same : (m *ℤ y) ≡ n) where
      equal : Lies low high y → Lies (m *ℤ low) (m *ℤ high) n → m *ℤ into_range low high y ≡ into_range (m *ℤ low) (m *ℤ high) n
      equal (under h e) (under g f) = rw (e, f) (omega (arith, ints))
      equal (under h e) (over k g f) = absurd (omega (arith, ints, strict y low h))
      equal (under h e) (inside k g f) = absurd (omega (arith, ints, strict y low h))
      equal (over k h e) (under g f) = absurd (omega (arith, ints, order low y k))
      equal (over k h e) (over j g f) = rw (e, f) (omega (arith, ints))
      equal (over k h e) (inside j g f) = absurd (omega (arith, ints, strict high y h))
      equal (inside k h e) (under g f) = absurd (omega (arith, ints, order low y k))
      equal (inside k h e) (over j g f) = absurd (omega (arith, ints, order y high h))
      equal (inside k h e) (inside j g f) = rw (e, f) same

    -- rounded down
    module _ (floor : IsFloor n m y) where
      below : Lies low high y → Lies (m *ℤ low) (m *ℤ high) n → IsFloor (into_range (m *ℤ low) (m *ℤ high) n) m (into_range low high y)
      below (under h e) (under g f) = rw (e, f) (omega (arith, ints), omega (arith, ints, strict low (low +ℤ pos 1) (omega (arith, ints))))
      below (under h e) (over k g f) = absurd (omega (arith, ints, floor.1, order (y +ℤ pos 1) low (omega (arith, ints)), order low high some_range))
      below (under h e) (inside k g f) = absurd (omega (arith, ints, floor.1, order (y +ℤ pos 1) low (omega (arith, ints))))
      below (over k h e) (under g f) = absurd (omega (arith, ints, floor.0, strict high y h, order low high some_range))
      below (over k h e) (over j g f) = rw (e, f) (omega (arith, ints), omega (arith, ints, strict high (high +ℤ pos 1) (omega (arith, ints))))
      below (over k h e) (inside j g f) = absurd (omega (arith, ints, floor.0, strict high y h))
      below (inside k h e) (under g f) = absurd (omega (arith, ints, floor.0, order low y k))
      below (inside k h e) (over j g f) = rw (e, f) (omega (arith, ints, order y high h), omega (arith, ints, floor.1))
      below (inside k h e) (inside j g f) = rw (e, f) floor

    -- rounded to the nearest
    module _ (floor : IsNearest n m y) where
      twice : (z : ℤ) → (pos 2 *ℤ m) *ℤ z ≡ pos 2 *ℤ (m *ℤ z)
      twice z = product_assoc (pos 2) m z

      least_half : (pos 2 *ℤ (m *ℤ y)) ≤ℤ ((pos 2 *ℤ n) +ℤ m)
      least_half = omega (arith, ints, floor.0, twice y)

      most_half : ((pos 2 *ℤ n) +ℤ m) <ℤ (pos 2 *ℤ (m *ℤ (y +ℤ pos 1)))
      most_half = omega (arith, ints, floor.1, twice (y +ℤ pos 1))

      -- a whole number of units is its own nearest
      own : (z : ℤ) → IsNearest (m *ℤ z) m z
      own z = (
        omega (arith, ints, twice z),
        omega (arith, ints, twice (z +ℤ pos 1), strict z (z +ℤ pos 1) (omega (arith, ints))),
      )

      close : Lies low high y → Lies (m *ℤ low) (m *ℤ high) n → IsNearest (into_range (m *ℤ low) (m *ℤ high) n) m (into_range low high y)
      close (under h e) (under g f) = rw (e, f) (own low)
      close (under h e) (over k g f) = absurd (omega (arith, ints, most_half, order (y +ℤ pos 1) low (omega (arith, ints)), order low high some_range))
      close (under h e) (inside k g f) = absurd (omega (arith, ints, most_half, order (y +ℤ pos 1) low (omega (arith, ints))))
      close (over k h e) (under g f) = absurd (omega (arith, ints, least_half, strict high y h, order low high some_range))
      close (over k h e) (over j g f) = rw (e, f) (own high)
      close (over k h e) (inside j g f) = absurd (omega (arith, ints, least_half, strict high y h))
      close (inside k h e) (under g f) = rw (e, f) (
        omega (arith, ints, twice y, least_half),
        omega (arith, ints, twice (y +ℤ pos 1), strict y (y +ℤ pos 1) (omega (arith, ints)), order low y k),
      )
      close (inside k h e) (over j g f) = rw (e, f) (
        omega (arith, ints, twice y, order y high h),
        omega (arith, ints, twice (y +ℤ pos 1), most_half),
      )
      close (inside k h e) (inside j g f) = rw (e, f) floor

pub keeps_good : SaturationKeepsGood
keeps_good Exact to n m y some same =
    equal m some (least_of to) (greatest_of to) n y (in_order to.signed to.width) same (lies (least_of to) (greatest_of to) y)
    (lies (m *ℤ least_of to) (m *ℤ greatest_of to) n)
keeps_good Faithful to n m y some near =
    let bounds = within_one-bounds n m y near in
    let both = apart m some (least_of to) (greatest_of to) n y (in_order to.signed to.width) bounds.0 bounds.1
    (lies (least_of to) (greatest_of to) y) (lies (m *ℤ least_of to) (m *ℤ greatest_of to) n) in
    within_one (into_range (m *ℤ least_of to) (m *ℤ greatest_of to) n) m (saturated to y) both.0 both.1
keeps_good Down to n m y some floor =
    below m some (least_of to) (greatest_of to) n y (in_order to.signed to.width) floor (lies (least_of to) (greatest_of to) y)
    (lies (m *ℤ least_of to) (m *ℤ greatest_of to) n)
keeps_good Nearest to n m y some floor =
    close m some (least_of to) (greatest_of to) n y (in_order to.signed to.width) floor (lies (least_of to) (greatest_of to) y)
    (lies (m *ℤ least_of to) (m *ℤ greatest_of to) n)

pub keeps_wrapped : WrappingKeepsGood
keeps_wrapped mode own to n m whole y good held turned = record {
  whole = whole;
  good = good;
  held = stays (least_of own) (greatest_of own) whole held.0 held.1;
  turned = turned;
}

-- in either case
pub keeps_chosen : (overflow : Overflow) (mode : Mode) (own to : Format) (n m whole y : ℤ) → pos 0 <ℤ m → IsGoodLinear n m whole mode
    → Holds own.signed own.width whole → Becomes overflow to whole y → IsGoodChosen overflow mode own to n m y
keeps_chosen Saturate mode own to n m whole y some good held is =
    subst (IsGoodSaturated mode to n m) (sym is) (keeps_good mode to n m whole some good)
keeps_chosen Wrap mode own to n m whole y some good held turned = keeps_wrapped mode own to n m whole y good held turned
