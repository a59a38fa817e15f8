use Rattle.opgen_laws.proofs.FixedLines.{lines_are_fixed}
use Rattle.opgen_laws.proofs.answers.lines_are_fixed.Goals as goal

pub returns : goal.returns
returns c = lines_are_fixed
