use Rattle.std.proofs.Common.{arith}
use Rattle.opgen_num.proofs.DecimalDigits.{digit_at}
use Rattle.opgen_document.proofs.Digits.{read_more, small}
use Rattle.opgen_document.proofs.decimal.digits_from.Goals as goal

pub overflow_mul-number : goal.overflow_mul-number
overflow_mul-number c =
    let below = small c.args.digits.now c.args.start c.digits.number c.digits.digit-index c.digits.invariant c.requires.small in
    omega (arith, below)

pub overflow_add-number : goal.overflow_add-number
overflow_add-number c =
    let below = small c.args.digits.now c.args.start c.digits.number c.digits.digit-index c.digits.invariant c.requires.small in
    let digit = digit_at c.args.digits.now c.digits.digit-index c.requires.digits (omega arith) in
    omega (arith, below, digit.1)

pub digits-preserved : goal.digits-preserved
digits-preserved c =
    let digit = digit_at c.args.digits.now c.digits.digit-index c.requires.digits (omega arith) in
    read_more c.args.digits.now c.args.start c.digits.number c.digits.digit-index _ (omega arith) c.digits.invariant (omega arith) digit.1
