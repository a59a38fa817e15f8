use Rattle.opgen_part_laws.proofs.Aligning.{small_designs}
use Rattle.opgen_part_laws.proofs.runs.small_designs_align.Goals as goal

pub returns : goal.returns
returns c = small_designs
