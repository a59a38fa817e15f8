use Rattle.std.proofs.Common.{◌≡◌, ◌-◌, ◌^◌, ◌<◌, sym, subst, arith}
use Rattle.opgen_num.specs.Formats.{digit_count}
use Rattle.opgen_num.proofs.RangeWidth.{count-holds, count-least}
use Rattle.opgen_constdiv.proofs.rows.rest_width.Goals as goal

pub returns-clause-value : goal.returns-clause-value
returns-clause-value c =
    let n = c.args.divisor - 1 in
    let r = c.bit_length.result in
    let same : c.from.result ≡ n = c.from.ensures in
    let least = count-least n r (subst (λ m. m < 2 ^ r) same c.bit_length.ensures.holds) in
    omega (arith, least, c.bit_length.ensures.least (digit_count n) (subst (λ m. m < 2 ^ digit_count n) (sym same) (count-holds n)))

pub returns-clause-few : goal.returns-clause-few
returns-clause-few c = c.bit_length.ensures.least 5 (omega (arith, c.from.ensures, c.requires.small.few))
