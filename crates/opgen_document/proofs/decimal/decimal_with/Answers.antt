use Rattle.std.proofs.Common.{arith, length}
use Rattle.opgen_document.proofs.Digits.{joined}
use Rattle.opgen_document.proofs.decimal.decimal_with.Goals as goal

pub digits_from-requires-clause-small : goal.digits_from-requires-clause-small
digits_from-requires-clause-small c =
    joined c.digits_from-units.result (length c.args.whole.now) (length c.args.places.now) c.digits_from-units.ensures.bound (omega arith)

pub returns-clause-digits : goal.returns-clause-digits
returns-clause-digits c =
    let most = joined c.digits_from-units.result (length c.args.whole.now) (length c.args.places.now) c.digits_from-units.ensures.bound
    (omega arith) in
    omega (arith, most, c.digits_from.ensures.bound)
