use Rattle.std.proofs.Common.{◌∙◌}
use Rattle.opgen_num.proofs.Words.{word-zeros}
use Rattle.opgen_read.proofs.unit.zeros.Goals as goal

pub returns : goal.returns
returns c = c.new.ensures ∙ word-zeros c.args.width
