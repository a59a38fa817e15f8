use Rattle.opgen_pipe.proofs.Soundness.{design_sound}
use Rattle.opgen_part_laws.proofs.plans.design_is_sound.Goals as goal

pub returns : goal.returns
returns c = design_sound
