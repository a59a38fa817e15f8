-- Numbers and fractions that are brought into a range: what they become, and what is good for them, by the floor of a fraction.
use Rattle.std.proofs.Common.{◌≡◌, ◌↔◌, ℕ, ◌-◌, Bool, true, false, arith, ap, refl, sym, subst}
use Rattle.std.specs.Prelude.{ℤ, pos, ◌+ℤ◌, ◌*ℤ◌, ◌<ℤ◌, ◌≤ℤ◌}
use Rattle.std.proofs.lemmas.Int.{ints, by_lt_z}
use Rattle.std.proofs.lemmas.Nat.{pow_pos}
use Rattle.opgen_num.specs.Floors.{IsFloor}
use Rattle.opgen_num.specs.Formats.{least, greatest}
use Rattle.opgen_num.specs.declared.mode.Mode.{Mode}
use Rattle.opgen_num.specs.declared.mode.Mode.TheVariants.{Exact, Faithful, Down, Nearest}
use Rattle.opgen_num.specs.Rounding.{IsGoodLinear, IsNearest}
use Rattle.opgen_num.proofs.Floors.{one_floor}
use Rattle.opgen_num.proofs.Integers.{product_order}
use Rattle.opgen_num.proofs.Quotients.{exact_only, within_one, within_one_only}
use Rattle.opgen_num.proofs.Rounded.{quotient_is_floor, nearest_below}
use Rattle.opgen_ports.specs.Good.{into_range}

-- what a number becomes, by where it lies
pub data Lies (low high n : ℤ) : Type 0 where
  under : n <ℤ low → into_range low high n ≡ low → Lies low high n
  over : low ≤ℤ n → high <ℤ n → into_range low high n ≡ high → Lies low high n
  inside : low ≤ℤ n → n ≤ℤ high → into_range low high n ≡ n → Lies low high n

pub lies : (low high n : ℤ) → Lies low high n
lies low high n =
    by_lt_z n low (λ h. under h (grind (arith, ints)))
    (λ h. by_lt_z high n (λ g. over h g (grind (arith, ints))) (λ g. inside h g (grind (arith, ints))))

pub in_order : (signed : Bool) (width : ℕ) → least signed width ≤ℤ greatest signed width
in_order false width = omega (arith, ints, pow_pos width)
in_order true width = omega (arith, ints, pow_pos (width - 1))

-- a whole number is good for itself alone
pub good_of_whole : (mode : Mode) (m z y : ℤ) → pos 0 <ℤ m → IsGoodLinear (m *ℤ z) m y mode ↔ y ≡ z
good_of_whole Exact m z y h = (
  (λ g. (exact_only (m *ℤ z) m z (pos 0) h (omega (arith, ints)) (omega (arith, ints)) h y g).0),
  λ e. ap (λ k. m *ℤ k) e,
)
good_of_whole Faithful m z y h = (
  (λ g. (within_one_only (m *ℤ z) m z (pos 0) h (omega (arith, ints)) (omega (arith, ints)) h y g).2 refl),
  λ e. within_one (m *ℤ z) m y (omega (arith, ints, ap (λ k. m *ℤ k) e)) (omega (arith, ints, ap (λ k. m *ℤ k) e)),
)
good_of_whole Down m z y h =
    let floor : IsFloor (m *ℤ z) m z = quotient_is_floor (m *ℤ z) m z (pos 0) h (omega (arith, ints)) (omega (arith, ints)) h in
    (λ g. one_floor m h (m *ℤ z) y z g floor, λ e. subst (λ k. IsFloor (m *ℤ z) m k) (sym e) floor)
good_of_whole Nearest m z y h =
    let nearest : IsNearest (m *ℤ z) m z = nearest_below (m *ℤ z) m z (pos 0) h (omega (arith, ints)) (omega (arith, ints)) h (omega (arith, ints, h)) in
    (λ g. one_floor (pos 2 *ℤ m) (omega (arith, ints, h)) _ y z g nearest, λ e. subst (λ k. IsNearest (m *ℤ z) m k) (sym e) nearest)

module _ (m low high n q : ℤ) (some : pos 0 <ℤ m) (some_range : low ≤ℤ high) (floor : IsFloor n m q) where
  order : (a b : ℤ) → a ≤ℤ b → (m *ℤ a) ≤ℤ (m *ℤ b)
  order a b h = product_order m a b (omega (arith, ints)) h

  floor_below : q <ℤ low → Lies (m *ℤ low) (m *ℤ high) n → into_range (m *ℤ low) (m *ℤ high) n ≡ m *ℤ low
  floor_below h (under g e) = e
  floor_below h (over k g e) = absurd (omega (arith, ints, floor.1, order (q +ℤ pos 1) low (omega (arith, ints))))
  floor_below h (inside k g e) = absurd (omega (arith, ints, floor.1, order (q +ℤ pos 1) low (omega (arith, ints))))

  floor_above : high ≤ℤ q → Lies (m *ℤ low) (m *ℤ high) n → into_range (m *ℤ low) (m *ℤ high) n ≡ m *ℤ high
  floor_above h (under g e) = absurd (omega (arith, ints, floor.0, order high q h, order low high some_range))
  floor_above h (over k g e) = e
  floor_above h (inside k g e) =
      let same : n ≡ m *ℤ high = omega (arith, ints, floor.0, order high q h) in
      omega (arith, ints, e, same)

  floor_within : low ≤ℤ q → q <ℤ high → Lies (m *ℤ low) (m *ℤ high) n → into_range (m *ℤ low) (m *ℤ high) n ≡ n
  floor_within h k (under g e) = absurd (omega (arith, ints, floor.0, order low q h))
  floor_within h k (over l g e) = absurd (omega (arith, ints, floor.1, order (q +ℤ pos 1) high (omega (arith, ints))))
  floor_within h k (inside l g e) = e

  pub good_below : (mode : Mode) (y : ℤ) → q <ℤ low → IsGoodLinear (into_range (m *ℤ low) (m *ℤ high) n) m y mode ↔ y ≡ low
  good_below mode y h =
      subst (λ z. IsGoodLinear z m y mode ↔ y ≡ low) (sym (floor_below h (lies (m *ℤ low) (m *ℤ high) n))) (good_of_whole mode m low y some)

  pub good_above : (mode : Mode) (y : ℤ) → high ≤ℤ q → IsGoodLinear (into_range (m *ℤ low) (m *ℤ high) n) m y mode ↔ y ≡ high
  good_above mode y h =
      subst (λ z. IsGoodLinear z m y mode ↔ y ≡ high) (sym (floor_above h (lies (m *ℤ low) (m *ℤ high) n))) (good_of_whole mode m high y some)

  pub into_range_within : low ≤ℤ q → q <ℤ high → into_range (m *ℤ low) (m *ℤ high) n ≡ n
  into_range_within h k = floor_within h k (lies (m *ℤ low) (m *ℤ high) n)
