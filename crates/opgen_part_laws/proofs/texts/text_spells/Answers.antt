use Rattle.opgen_write.proofs.Designs.{spells}
use Rattle.opgen_part_laws.proofs.texts.text_spells.Goals as goal

pub returns : goal.returns
returns c = spells
