use Rattle.std.proofs.Common.{arith}
use Rattle.opgen_num.specs.Formats.{digit_count}
use Rattle.opgen_num.proofs.RangeWidth.{count-holds, count-least}
use Rattle.opgen_terms.proofs.terms.digit_count.Goals as goal

pub returns-clause-value : goal.returns-clause-value
returns-clause-value c =
    let n = c.args.number in
    omega (arith, count-least n c.bit_length.result c.bit_length.ensures.holds, c.bit_length.ensures.least (digit_count n) (count-holds n))

pub returns-clause-bound : goal.returns-clause-bound
returns-clause-bound c = c.bit_length.ensures.least 128 (omega arith)
