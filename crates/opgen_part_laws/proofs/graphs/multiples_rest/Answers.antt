use Rattle.opgen_part_laws.proofs.RestingMultiples.{multiples_rest}
use Rattle.opgen_part_laws.proofs.graphs.multiples_rest.Goals as goal

pub returns : goal.returns
returns c = multiples_rest
