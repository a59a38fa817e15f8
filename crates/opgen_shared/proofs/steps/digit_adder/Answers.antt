use Rattle.std.proofs.Common.{◌≡◌, ◌%◌, arith}
use Rattle.opgen_shared.proofs.StepLaws.{digit_plus, digit_minus}
use Rattle.opgen_shared.proofs.steps.digit_adder.Goals as goal

pub returns-then-number-eq1 : goal.returns-then-number-eq1
returns-then-number-eq1 c = digit_plus c.args.number _ _ _ c.adder_of.ensures c.requires c.if-number-eq1.true c.split_odd-rest.ensures.odd c.split_odd-rest.ensures.product

pub returns : goal.returns
returns c =
    let three : c.args.number % 4 ≡ 3 = omega (arith, c.if-number-eq1.false, c.requires.0) in
    digit_minus c.args.number _ _ _ c.adder_of-2.ensures c.requires three c.split_odd-rest-2.ensures.odd c.split_odd-rest-2.ensures.product
