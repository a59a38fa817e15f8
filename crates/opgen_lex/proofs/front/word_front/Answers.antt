use Rattle.std.proofs.Common.{None, sym, ◌∙◌}
use Rattle.opgen_lex.proofs.Words.{word_front-by_length}
use Rattle.opgen_lex.proofs.front.word_front.Goals as goal

pub returns-in_err-len : goal.returns-in_err-len
returns-in_err-len c = c.from_residual.ensures ∙ sym (word_front-by_length c.args.bytes.now None c.in_err-len.ensures)
