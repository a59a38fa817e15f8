use Rattle.std.proofs.Common.{◌≡◌, ◌+ℤ◌, ◌*ℤ◌, ◌^◌, ◌%◌, pos, set, get_or, FitsSigned, unsigned_abs, rules, sym, ◌∙◌, ap, subst, arith}
use mir.Syntax.{w8, w64}
use mir.Val.{to_z, of_z}
use Rattle.std.proofs.lemmas.Int.{ints, to_z-of_z}
use Rattle.opgen_csd.specs.Digits.{value_of}
use Rattle.opgen_csd.proofs.Sums.{digit_at, value_fits, weight_of_nonzero, weight_of_zero}
use Rattle.opgen_csd.proofs.Filling.{fills_first, fills_zero, fills_more, room, is_filled}
use Rattle.opgen_csd.proofs.digits.Digits.partials.Goals as goal
use Rattle.opgen_csd.proofs.digits.Digits.partials.Goals.{then-digit-ne0, else-digit-ne0}

pub loop-place-init : goal.loop-place-init
loop-place-init c =
    let first : FitsSigned w8 (get_or c.self.inside.digits 0 (pos 0)) = search rules in
    let e : to_z w64 (of_z w64 c.from-sum.result) ≡ get_or c.self.inside.digits 0 (pos 0) = omega (arith, ints) in
    rw e (fills_first c.self.inside.digits c.self.inside.len
    (subst (λ ds. unsigned_abs (value_of ds) % 2 ≡ 1) (sym c.self.view_is) c.requires))

pub weighted-sum-requires-clause-digit : goal.weighted-sum-requires-clause-digit
weighted-sum-requires-clause-digit c =
    let d : FitsSigned w8 (get_or c.self.inside.digits c.loop-place.place (pos 0)) = search rules in
    rw (to_z-of_z w8 _ d) (digit_at _ _ _ c.self.invariant c.self.told c.loop-place-test.true)

pub overflow_add-sum : goal.overflow_add-sum
overflow_add-sum c =
    let d : FitsSigned w8 (get_or c.self.inside.digits c.loop-place.place (pos 0)) = search rules in
    let r : FitsSigned w64 c.weighted-sum.result = search rules in
    let e = rw (to_z-of_z w8 _ d) at c.weighted-sum.ensures in
    rw (to_z-of_z w64 c.weighted-sum.result r, c.loop-place.invariant.total, e)
    (value_fits _ _ _ c.self.invariant c.self.told c.loop-place-test.true)

pub bounds-sums-len : goal.bounds-sums-len
bounds-sums-len c = omega (
  arith,
  room _ _ _ _ _ _ c.self.invariant c.self.told c.loop-place-test.true (weight_of_nonzero _
      c.if-digit-ne0.true) c.loop-place.invariant,
)

pub overflow_add-len : goal.overflow_add-len
overflow_add-len c = omega (
  arith,
  room _ _ _ _ _ _ c.self.invariant c.self.told c.loop-place-test.true (weight_of_nonzero _
      c.if-digit-ne0.true) c.loop-place.invariant,
)

pub loop-place-preserved : goal.loop-place-preserved
loop-place-preserved c =
    let digit = get_or c.self.inside.digits c.loop-place.place (pos 0) in
    let d : FitsSigned w8 digit = search rules in
    let r : FitsSigned w64 c.weighted-sum.result = search rules in
    let e = rw (to_z-of_z w8 _ d) at c.weighted-sum.ensures in
    let fits = value_fits _ _ _ c.self.invariant c.self.told c.loop-place-test.true in
    let next : to_z w64 (of_z w64 (to_z w64 c.loop-place.sum-bits +ℤ to_z w64 (of_z w64 c.weighted-sum.result)))
    ≡ to_z w64 c.loop-place.sum-bits +ℤ digit *ℤ pos (2 ^ c.loop-place.place) = rw
    (to_z-of_z w64 c.weighted-sum.result r, c.loop-place.invariant.total, e) (to_z-of_z w64 _ fits) in
    elim c.if-digit-ne0.branch [
      | then-digit-ne0 w ↦
          let x : c.if-digit-ne0.sums ≡ set c.loop-place.sums c.loop-place.len (unsigned_abs
          (to_z w64 (of_z w64 (to_z w64 c.loop-place.sum-bits +ℤ to_z w64 (of_z w64 c.weighted-sum.result))))) = w.sums-is
          ∙ ap (set c.loop-place.sums c.loop-place.len) w.unsigned_abs.ensures.value in
          rw (x, w.len-is) (fills_more _ _ _ _ _ _ c.self.invariant c.self.told c.loop-place-test.true
          (weight_of_nonzero _ w.if-digit-ne0.true) c.loop-place.invariant _ next)
      | else-digit-ne0 w ↦ rw (w.sums-is, w.len-is, next)
          (fills_zero _ _ _ _ _ _ c.self.invariant c.self.told c.loop-place-test.true
          (weight_of_zero digit d w.if-digit-ne0.false) c.loop-place.invariant)
    ]

pub invariant_of-result : goal.invariant_of-result
invariant_of-result c = is_filled _ _ _ _ _ c.loop-place.invariant
