-- The bits that are dropped, and the choice that the test makes.
use Rattle.std.proofs.Common.{◌≡◌, ℕ, ◌-◌, ◌<◌, ◌≤◌, min, cond, Bool, true, false, List, [], ◌∷◌, ◌&&◌, if◌then◌else◌, nat_le, refl, sym, ◌∙◌, arith}
use Rattle.std.specs.Prelude.{ℤ, ◌<ℤ◌, ◌≤ℤ◌}
use Rattle.std.proofs.lemmas.Bool.{leb-false, leb-true}
use Rattle.std.proofs.lemmas.Int.{ints}
use Rattle.opgen_num.specs.declared.format.Format.{Format}
use Rattle.opgen_num.specs.Formats.{Holds, IsWidthOf}
use Rattle.opgen_num.specs.Words.{val}
use Rattle.opgen_num.proofs.BitLength.{power_order}
use Rattle.opgen_design.specs.Value.{chosen}
use Rattle.opgen_ports.specs.Good.{into_range, least_of, greatest_of, saturated}
use Rattle.opgen_saturate.specs.Recipe.{is_wider, first_dropped, counting, least_word, greatest_word}
use Rattle.opgen_ports.proofs.Clamped.{Lies, under, over, inside, lies}
use Rattle.opgen_ports.proofs.InputPorts.{some_bits}
use Rattle.opgen_saturate.proofs.Outside.{Tells}

-- where the other format does not hold every number, there are bits to drop
pub dropped-within : (format to : Format) → IsWidthOf format.signed format.width → is_wider format to ≡ false
    → first_dropped format to < format.width
dropped-within format to some = go format.signed (some_bits format.signed format.width some.0)
  where
    go : (signed : Bool) → 1 ≤ format.width
        → (if signed then to.signed && nat_le format.width to.width else nat_le format.width (counting to)) ≡ false
        → (if signed then min (counting to) (format.width - 1) else counting to) < format.width
    go true few h = omega (arith, few)
    go false few h = leb-false format.width (counting to) h

-- a number of the range stays
pub stays : (low high n : ℤ) → low ≤ℤ n → n ≤ℤ high → into_range low high n ≡ n
stays low high n f g = go (lies low high n)
  where
    go : Lies low high n → into_range low high n ≡ n
    go (under h e) = absurd (omega (arith, ints, h, f))
    go (over k h e) = absurd (omega (arith, ints, h, g))
    go (inside k h e) = e

becomes_least : (low high n : ℤ) → n <ℤ low → into_range low high n ≡ low
becomes_least low high n f = go (lies low high n)
  where
    go : Lies low high n → into_range low high n ≡ low
    go (under h e) = e
    go (over k h e) = absurd (omega (arith, ints, k, f))
    go (inside k h e) = absurd (omega (arith, ints, k, f))

becomes_greatest : (low high n : ℤ) → low ≤ℤ high → high <ℤ n → into_range low high n ≡ high
becomes_greatest low high n some f = go (lies low high n)
  where
    go : Lies low high n → into_range low high n ≡ high
    go (under h e) = absurd (omega (arith, ints, h, f, some))
    go (over k h e) = e
    go (inside k h e) = absurd (omega (arith, ints, h, f))

-- what is chosen by the test and the sign is the number brought into the range
module _ (to : Format) (n : ℤ) (some : least_of to ≤ℤ greatest_of to) (least-is : val (least_word to) to ≡ least_of to)
    (greatest-is : val (greatest_word to) to ≡ greatest_of to) (low : List Bool)
    (kept : Holds to.signed to.width n → val low to ≡ n) where
  pub decided : (o negative : Bool) → Tells o negative to.signed to.width n
      → val (chosen (o ∷ []) (cond negative (least_word to) (greatest_word to)) low) to ≡ saturated to n
  decided false negative h =
      kept (h.inside refl) ∙ sym (stays (least_of to) (greatest_of to) n (h.inside refl).0 (h.inside refl).1)
  decided true true h = least-is ∙ sym (becomes_least (least_of to) (greatest_of to) n (h.under refl refl))
  decided true false h = greatest-is ∙ sym (becomes_greatest (least_of to) (greatest_of to) n some (h.over refl refl))

-- a format that holds every number of another
module _ (w m : ℕ) (n : ℤ) where
  holds_wider : (signed other : Bool) → 1 ≤ w
      → (if signed then other && nat_le w m else nat_le w (if other then m - 1 else m)) ≡ true → Holds signed w n → Holds other m n
  holds_wider false false few h k = (k.0, omega (arith, ints, k.1, power_order w m (leb-true w m h)))
  holds_wider false true few h k =
      (omega (arith, ints, k.0), omega (arith, ints, k.1, power_order w (m - 1) (leb-true w (m - 1) h)))
  holds_wider true false few h k = absurd (cc)
  holds_wider true true few h k =
      let p = power_order (w - 1) (m - 1) (omega (arith, leb-true w m h)) in
      (omega (arith, ints, k.0, p), omega (arith, ints, k.1, p))

pub wider-holds : (format to : Format) (n : ℤ) → 1 ≤ format.width → is_wider format to ≡ true
    → Holds format.signed format.width n → Holds to.signed to.width n
wider-holds format to n = holds_wider format.width to.width n format.signed to.signed
