use Rattle.std.proofs.Common.{rules, ◌≡◌, sym, ap, ◌∙◌, pos, arith, FitsSigned, add-one}
use mir.Syntax.{w8, w64}
use mir.Val.{to_z, of_z}
use Rattle.std.proofs.lemmas.Int.{ints, to_z-of_z, of_z-to_z}
use Rattle.opgen_csd.proofs.Recoding.{recodes_none, recodes_more, recoded, is_recoded, halves}
use Rattle.opgen_csd.proofs.digits.recode.Goals as goal

pub loop-rest-init : goal.loop-rest-init
loop-rest-init c = let n = c.args.n in let f : FitsSigned w64 n = search rules in rw (to_z-of_z w64 n f) (recodes_none n c.requires)

pub above-rest-requires-clause-even : goal.above-rest-requires-clause-even
above-rest-requires-clause-even c =
    let d : FitsSigned w8 c.lowest_digit-digit.result = search rules in
    rw (to_z-of_z w8 c.lowest_digit-digit.result d) (halves _ _ c.lowest_digit-digit.ensures.odd c.lowest_digit-digit.ensures.even)

pub loop-rest-preserved : goal.loop-rest-preserved
loop-rest-preserved c =
    let n : FitsSigned w64 c.args.n = search rules in
    let d : FitsSigned w8 c.lowest_digit-digit.result = search rules in
    let r : FitsSigned w64 c.above-rest.result = search rules in
    let sum = rw (to_z-of_z w8 c.lowest_digit-digit.result d) at c.above-rest.ensures in
    let before = rw (to_z-of_z w64 c.args.n n) at c.loop-rest.invariant in
    rw (to_z-of_z w64 c.args.n n, to_z-of_z w8 c.lowest_digit-digit.result d, to_z-of_z w64 c.above-rest.result r, add-one)
    (recodes_more _ _ _ (to_z w64 c.loop-rest.rest-bits) c.lowest_digit-digit.result c.above-rest.result before
    (λ z. c.loop-rest-test.true (sym (of_z-to_z w64 c.loop-rest.rest-bits (search rules)) ∙ ap (of_z w64) z))
    c.lowest_digit-digit.ensures.digit sum (λ ne. let x = c.lowest_digit-digit.ensures.odd ne in (x.0, omega (arith, ints, x.1, sum))))

pub invariant_of-result : goal.invariant_of-result
invariant_of-result c =
    let n : FitsSigned w64 c.args.n = search rules in
    let z : to_z w64 c.loop-rest.rest-bits ≡ pos 0 = omega (arith, ints, c.loop-rest-test.false) in
    is_recoded c.args.n _ _ _ c.requires (rw (to_z-of_z w64 c.args.n n) at c.loop-rest.invariant) z

pub returns-clause-canonical : goal.returns-clause-canonical
returns-clause-canonical c = let z : to_z w64 c.loop-rest.rest-bits
    ≡ pos 0 = omega (arith, ints, c.loop-rest-test.false) in (recoded _ _ _ _ c.loop-rest.invariant z).0

pub returns-clause-value : goal.returns-clause-value
returns-clause-value c = let z : to_z w64 c.loop-rest.rest-bits
    ≡ pos 0 = omega (arith, ints, c.loop-rest-test.false) in let n : FitsSigned w64 c.args.n = search rules in let e =
    (recoded _ _ _ _ c.loop-rest.invariant z).1 in rw (to_z-of_z w64 c.args.n n) at e
