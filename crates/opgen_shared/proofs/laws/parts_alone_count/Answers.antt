use Rattle.opgen_shared.proofs.RuleLaws.{parts_alone_count}
use Rattle.opgen_shared.proofs.laws.parts_alone_count.Goals as goal

pub returns : goal.returns
returns c = parts_alone_count
