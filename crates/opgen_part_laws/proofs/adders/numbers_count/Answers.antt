use Rattle.opgen_part_laws.proofs.Numbering.{numbers_count}
use Rattle.opgen_part_laws.proofs.adders.numbers_count.Goals as goal

pub returns : goal.returns
returns c = numbers_count
