use Rattle.opgen_top.proofs.Planning.{circuit_sound}
use Rattle.opgen_laws.proofs.circuits.circuits_are_sound.Goals as goal

pub returns : goal.returns
returns c = circuit_sound
