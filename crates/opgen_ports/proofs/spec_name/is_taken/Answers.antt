use Rattle.opgen_ports.specs.SpecName.{taken_names}
use Rattle.opgen_ports.proofs.spec_name.is_taken.Goals as goal

pub returns : goal.returns
unfolding taken_names
returns c = c.contains.ensures.value
