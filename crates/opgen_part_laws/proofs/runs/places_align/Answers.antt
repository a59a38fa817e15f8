use Rattle.opgen_part_laws.proofs.Aligning.{places_align}
use Rattle.opgen_part_laws.proofs.runs.places_align.Goals as goal

pub returns : goal.returns
returns c = places_align
