use Rattle.std.proofs.Common.{pos, get_or, FitsSigned, rules, sym}
use mir.Syntax.{w8, w64}
use Rattle.std.proofs.lemmas.Int.{to_z-of_z}
use Rattle.opgen_csd.proofs.Sums.{digit_at, value_more, value_fits}
use Rattle.opgen_csd.proofs.digits.Digits.value.Goals as goal

pub weighted-sum-requires-clause-digit : goal.weighted-sum-requires-clause-digit
weighted-sum-requires-clause-digit c =
    let d : FitsSigned w8 (get_or c.self.inside.digits c.loop-place.place (pos 0)) = search rules in
    rw (to_z-of_z w8 _ d) (digit_at _ _ _ c.self.invariant c.self.told c.loop-place-test.true)

pub overflow_add-sum : goal.overflow_add-sum
overflow_add-sum c =
    let d : FitsSigned w8 (get_or c.self.inside.digits c.loop-place.place (pos 0)) = search rules in
    let r : FitsSigned w64 c.weighted-sum.result = search rules in
    let e = rw (to_z-of_z w8 _ d) at c.weighted-sum.ensures in
    rw (to_z-of_z w64 c.weighted-sum.result r, c.loop-place.invariant, e)
    (value_fits _ _ _ c.self.invariant c.self.told c.loop-place-test.true)

pub loop-place-preserved : goal.loop-place-preserved
loop-place-preserved c =
    let d : FitsSigned w8 (get_or c.self.inside.digits c.loop-place.place (pos 0)) = search rules in
    let r : FitsSigned w64 c.weighted-sum.result = search rules in
    let e = rw (to_z-of_z w8 _ d) at c.weighted-sum.ensures in
    let fits = value_fits _ _ _ c.self.invariant c.self.told c.loop-place-test.true in
    rw (to_z-of_z w64 c.weighted-sum.result r, c.loop-place.invariant, e, to_z-of_z w64 _ fits)
    (sym (value_more _ _ _ c.self.invariant c.self.told c.loop-place-test.true))
