use Rattle.std.proofs.Common.{arith}
use Rattle.opgen_num.specs.Formats.{digit_count}
use Rattle.opgen_num.proofs.RangeWidth.{count-holds, count-least}
use Rattle.opgen_kcm.proofs.table.digit_count.Goals as goal

pub returns : goal.returns
returns c =
    let n = c.args.number in
    omega (arith, count-least n c.bit_length.result c.bit_length.ensures.holds, c.bit_length.ensures.least (digit_count n) (count-holds n))
