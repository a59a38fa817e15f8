use Rattle.std.proofs.Common.{◌≡◌, inl, inr, ◌∙◌, FitsSigned, arith, rules, subst, sym}
use Rattle.std.specs.Int.{w128, int_div_euclid}
use Rattle.std.specs.Prelude.{◌↔◌, ◌<ℤ◌, ◌≤ℤ◌, ◌+ℤ◌, pos, IsTrue}
use Rattle.std.proofs.lemmas.Bool.{true≢false}
use Rattle.std.proofs.lemmas.Int.{ints, to_z-of_z}
use Rattle.opgen_num.proofs.Rounded.{floor_is}
use Rattle.opgen_num.specs.Floors.{IsFloor}
use Rattle.opgen_ports.specs.Good.{greatest_of, least_of}
use Rattle.opgen_ports.proofs.Clamped.{in_order}
use Rattle.opgen_ports.proofs.Turned.{held_is, one_of_two, wrapped_of, IsWrappedOf}
use Rattle.opgen_ports.proofs.overflow.good_wrapped.Goals as goal

pub returns-then-is_wrapped : goal.returns-then-is_wrapped
returns-then-is_wrapped c =
    let fits_floor : FitsSigned w128 c.div_euclid-floor.result = search rules in
    let fits_y : FitsSigned w128 c.args.y = search rules in
    let made : IsWrappedOf c.args.mode c.args.own c.args.to c.args.value.num c.args.value.den c.div_euclid-floor.result c.args.y =
    simp to_z-of_z at c.is_wrapped.ensures.0 c.if-is_wrapped.true in
    (λ t. wrapped_of c.args.mode c.args.own c.args.to _ _ _ _ made, λ g. c.if-is_wrapped.true)

pub returns-then-floor-greatest_of : goal.returns-then-floor-greatest_of
returns-then-floor-greatest_of c =
    let fits_num : FitsSigned w128 c.args.value.num = search rules in
    let fits_den : FitsSigned w128 c.args.value.den = search rules in
    let fits_floor : FitsSigned w128 c.div_euclid-floor.result = search rules in
    let fits_high : FitsSigned w128 c.greatest_of.result = search rules in
    let fits_y : FitsSigned w128 c.args.y = search rules in
    let m = c.args.value.den in
    let q = c.div_euclid-floor.result in
    let whole : q ≡ int_div_euclid c.args.value.num m = simp to_z-of_z at c.div_euclid-floor.ensures in
    let floor : IsFloor c.args.value.num m q = subst (λ k. IsFloor c.args.value.num m k) (sym whole) (floor_is c.args.value.num m c.requires.den) in
    let less : q <ℤ c.greatest_of.result = omega (arith, ints, c.if-floor-greatest_of.true) in
    let fits_next : FitsSigned w128 (q +ℤ pos 1) = omega (arith, ints, less) in
    let first : IsTrue c.is_wrapped.result ↔ IsWrappedOf c.args.mode c.args.own c.args.to c.args.value.num m q c.args.y =
    simp to_z-of_z at c.is_wrapped.ensures in
    let next : IsTrue c.is_wrapped-then-floor-greatest_of.result
    ↔ IsWrappedOf c.args.mode c.args.own c.args.to c.args.value.num m (q +ℤ pos 1) c.args.y =
    simp to_z-of_z at c.is_wrapped-then-floor-greatest_of.ensures in (
      λ t. wrapped_of c.args.mode c.args.own c.args.to _ _ _ _ (next.0 t),
      λ g. elim (one_of_two c.args.mode c.args.own c.args.to c.args.value.num m c.args.y q c.requires.den floor g) [
        | inl here ↦ absurd (true≢false (sym (first.1 here) ∙ c.if-is_wrapped.false))
        | inr there ↦ next.1 there
      ],
    )

pub returns-else-floor-greatest_of : goal.returns-else-floor-greatest_of
returns-else-floor-greatest_of c =
    let fits_num : FitsSigned w128 c.args.value.num = search rules in
    let fits_den : FitsSigned w128 c.args.value.den = search rules in
    let fits_floor : FitsSigned w128 c.div_euclid-floor.result = search rules in
    let fits_high : FitsSigned w128 c.greatest_of.result = search rules in
    let fits_y : FitsSigned w128 c.args.y = search rules in
    let m = c.args.value.den in
    let q = c.div_euclid-floor.result in
    let own = c.args.own in
    let whole : q ≡ int_div_euclid c.args.value.num m = simp to_z-of_z at c.div_euclid-floor.ensures in
    let floor : IsFloor c.args.value.num m q = subst (λ k. IsFloor c.args.value.num m k) (sym whole) (floor_is c.args.value.num m c.requires.den) in
    let above : greatest_of own ≤ℤ q = omega (arith, ints, c.greatest_of.ensures, c.if-floor-greatest_of.false) in
    let first : IsTrue c.is_wrapped.result ↔ IsWrappedOf c.args.mode own c.args.to c.args.value.num m q c.args.y =
    simp to_z-of_z at c.is_wrapped.ensures in (
      λ t. absurd (true≢false (sym t ∙ c.if-floor-greatest_of.false)),
      λ g. elim (one_of_two c.args.mode own c.args.to c.args.value.num m c.args.y q c.requires.den floor g) [
        | inl here ↦ absurd (true≢false (sym (first.1 here) ∙ c.if-is_wrapped.false))
        | inr there ↦
            let held = (held_is (least_of own) (greatest_of own) (q +ℤ pos 1) (in_order own.signed own.width)).0 (there.1) in
            absurd (omega (arith, ints, held.1, above))
      ],
    )
