use Rattle.std.proofs.Common.{◌+◌, ◌-◌, ◌*◌, suc, get_or, ◌∙◌, sym, arith}
use Rattle.opgen_lex.proofs.DigitValues.{read_digit, no_index}
use Rattle.opgen_lex.proofs.token_text.index_of.Goals as goal

pub returns-then-index-gt-MAX_INDEX-clause-value : goal.returns-then-index-gt-MAX_INDEX-clause-value
returns-then-index-gt-MAX_INDEX-clause-value c =
    no_index c.args.digits.now (c.digits.index * 10 + (get_or c.args.digits.now c.digits.digit-index 0 - 48)) (suc c.digits.digit-index)
    (sym (read_digit c.args.digits.now c.digits.index c.digits.digit-index c.requires (omega arith)) ∙ c.digits.invariant.read)
    (omega (arith, c.if-index-gt-MAX_INDEX.true))
