use Rattle.std.proofs.Common.{length, arith}
use Rattle.std.proofs.lemmas.Int.{ints}
use Rattle.std.proofs.lemmas.Nat.{pow_below}
use Rattle.opgen_num.proofs.Words.{nat-below}
use Rattle.opgen_num.proofs.format.unsigned_value.Goals as goal

pub overflow_cast-result : goal.overflow_cast-result
overflow_cast-result c =
    let small = pow_below (length c.args.word) 126 (omega arith) in
    omega (arith, nat-below c.args.word)

pub returns : goal.returns
returns c =
    let small = pow_below (length c.args.word) 126 (omega arith) in
    omega (arith, ints, c.bits.ensures, nat-below c.args.word)
