use Rattle.std.proofs.Common.{true≢false, sym, ◌∙◌, arith}
use Rattle.opgen_shared.proofs.Forms.{some_digits, same_count}
use Rattle.opgen_shared.proofs.LevelLaws.{counted, weight_placed, weight_new}
use Rattle.opgen_shared.proofs.weights.weight.Goals as goal

pub returns-then-stands-clause-weight : goal.returns-then-stands-clause-weight
returns-then-stands-clause-weight c = weight_placed c.args.sums.now.adders c.args.number (c.stands.ensures.level.0 c.if-stands.true)

pub returns-then-stands-clause-most : goal.returns-then-stands-clause-most
returns-then-stands-clause-most c = λ count h. some_digits c.args.number count (omega (arith, c.requires.number.0)) h

pub returns-clause-weight : goal.returns-clause-weight
returns-clause-weight c =
    counted c.args.number c.digit_count.result c.digit_count.ensures ∙ weight_new c.args.sums.now.adders c.args.number (λ some. true≢false (sym (c.stands.ensures.level.1 some) ∙ c.if-stands.false))

pub returns-clause-most : goal.returns-clause-most
returns-clause-most c = λ count h. omega (arith, same_count c.args.number c.digit_count.result count c.digit_count.ensures h)
