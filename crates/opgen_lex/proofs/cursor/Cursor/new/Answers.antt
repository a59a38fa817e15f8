use Rattle.opgen_lex.proofs.HeldToken.{cut-fits, cut-left}
use Rattle.opgen_lex.proofs.cursor.Cursor.new.Goals as goal

pub invariant_of-result : goal.invariant_of-result
invariant_of-result c = record { fitting = cut-fits c.args.bytes.now c.first_token.result c.first_token.ensures.some }

pub returns : goal.returns
returns c = cut-left c.args.bytes.now c.first_token.result c.first_token.ensures.some c.first_token.ensures.none
