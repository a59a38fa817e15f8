-- Numbers that are the same modulo two to a power have the same rest, and an output that wraps is one of two numbers.
use Rattle.std.proofs.Common.{◌≡◌, ◌↔◌, ◌⊎◌, inl, inr, ℕ, ◌^◌, arith, ap, subst, sym}
use Rattle.std.specs.Prelude.{ℤ, pos, ◌+ℤ◌, ◌-ℤ◌, ◌*ℤ◌, ◌<ℤ◌, ◌≤ℤ◌}
use Rattle.std.specs.Int.{int_div_euclid, int_rem_euclid}
use Rattle.std.proofs.lemmas.Int.{ints}
use Rattle.std.proofs.lemmas.Nat.{pow_pos}
use Rattle.opgen_num.specs.declared.format.Format.{Format}
use Rattle.opgen_num.specs.declared.mode.Mode.{Mode}
use Rattle.opgen_num.specs.Floors.{IsFloor}
use Rattle.opgen_num.specs.Rounding.{IsGoodLinear}
use Rattle.opgen_num.proofs.Floors.{one_floor}
use Rattle.opgen_num.proofs.Integers.{commuted, products, product-difference}
use Rattle.opgen_num.proofs.Quotients.{quotient_and_rest}
use Rattle.opgen_num.proofs.Rounded.{floor_is, floor_moved}
use Rattle.opgen_ports.proofs.Clamped.{Lies, lies, under, over, inside}
use Rattle.opgen_ports.proofs.OneGood.{good_is_floor_or_next}
use Rattle.opgen_ports.specs.Good.{into_range, saturated, IsGoodWrapped, IsTurned}

rest_moved : (p whole y turns : ℤ) → pos 0 <ℤ p → y ≡ whole +ℤ (p *ℤ turns) → int_rem_euclid y p ≡ int_rem_euclid whole p
rest_moved p whole y turns some same =
    let first = int_div_euclid whole p in
    let second = int_div_euclid y p in
    let moved : IsFloor y p (first +ℤ turns) = subst (λ z. IsFloor z p (first +ℤ turns)) (sym same) (floor_moved whole p first turns (floor_is whole p some)) in
    let quotient : second ≡ first +ℤ turns = one_floor p some y second (first +ℤ turns) (floor_is y p some) moved in
    let times : p *ℤ second ≡ p *ℤ (first +ℤ turns) = ap (λ z. p *ℤ z) quotient in
    omega (arith, products, same, times, quotient_and_rest whole p some, quotient_and_rest y p some, commuted first p, commuted second p)

turned_by_rest : (p whole y : ℤ) → pos 0 <ℤ p → int_rem_euclid y p ≡ int_rem_euclid whole p
    → y ≡ whole +ℤ (p *ℤ (int_div_euclid y p -ℤ int_div_euclid whole p))
turned_by_rest p whole y some rests =
    let first = int_div_euclid whole p in
    let second = int_div_euclid y p in
    omega (
      arith,
      ints,
      rests,
      product-difference p second first,
      quotient_and_rest whole p some,
      quotient_and_rest y p some,
      commuted first p,
      commuted second p,
    )

pub turned_is : (power : ℕ) (whole y : ℤ) → int_rem_euclid y (pos (2 ^ power)) ≡ int_rem_euclid whole (pos (2 ^ power)) ↔ IsTurned power whole y
turned_is power whole y =
    let some : pos 0 <ℤ pos (2 ^ power) = omega (arith, ints, pow_pos power) in (
      (λ rests. record { turns = int_div_euclid y (pos (2 ^ power)) -ℤ int_div_euclid whole (pos (2 ^ power)); same = turned_by_rest _ whole y some rests }),
      λ turned. rest_moved _ whole y turned.turns some turned.same,
    )

-- a number is in a range where bringing it there leaves it
pub held_is : (low high n : ℤ) → low ≤ℤ high → into_range low high n ≡ n ↔ ((low ≤ℤ n) × (n ≤ℤ high))
held_is low high n some = go (lies low high n)
  where
    go : Lies low high n → into_range low high n ≡ n ↔ ((low ≤ℤ n) × (n ≤ℤ high))
    go (under h e) = ((λ g. absurd (omega (arith, ints, e, g, h))), λ g. absurd (omega (arith, ints, g.0, h)))
    go (over k h e) = ((λ g. absurd (omega (arith, ints, e, g, h))), λ g. absurd (omega (arith, ints, g.1, h)))
    go (inside h k e) = ((λ g. (h, k)), λ g. e)

-- y is a number of the other format modulo two to its width
abbrev pub IsWrappedOf : (mode : Mode) (own to : Format) (n m whole y : ℤ) → Type 0
IsWrappedOf mode own to n m whole y = IsGoodLinear n m whole mode × saturated own whole ≡ whole × IsTurned to.width whole y

pub wrapped_of : (mode : Mode) (own to : Format) (n m whole y : ℤ) → IsWrappedOf mode own to n m whole y → IsGoodWrapped mode own to n m y
wrapped_of mode own to n m whole y (good, held, turned) = record { whole = whole; good = good; held = held; turned = turned }

pub one_of_two : (mode : Mode) (own to : Format) (n m y floor : ℤ) → pos 0 <ℤ m → IsFloor n m floor → IsGoodWrapped mode own to n m y
    → IsWrappedOf mode own to n m floor y ⊎ IsWrappedOf mode own to n m (floor +ℤ pos 1) y
one_of_two mode own to n m y floor some is wrapped =
    go (good_is_floor_or_next n m floor wrapped.whole some is mode wrapped.good)
  where
    all : IsWrappedOf mode own to n m wrapped.whole y
    all = (wrapped.good, wrapped.held, wrapped.turned)

    go : (wrapped.whole ≡ floor) ⊎ (wrapped.whole ≡ floor +ℤ pos 1)
        → IsWrappedOf mode own to n m floor y ⊎ IsWrappedOf mode own to n m (floor +ℤ pos 1) y
    go (inl e) = inl (subst (λ whole. IsWrappedOf mode own to n m whole y) e all)
    go (inr e) = inr (subst (λ whole. IsWrappedOf mode own to n m whole y) e all)
