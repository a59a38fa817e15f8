use Rattle.opgen_csd.proofs.Fewest.{fewest}
use Rattle.opgen_part_laws.proofs.digits.fewest_nonzeros.Goals as goal

pub returns : goal.returns
returns c = fewest
