use Rattle.opgen_write.proofs.Lengths.{signals-fewer}
use Rattle.opgen_part_laws.proofs.texts.text_lengths.Goals as goal

pub returns : goal.returns
returns c = signals-fewer
