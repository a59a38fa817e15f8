use Rattle.opgen_streams.proofs.WordByWord.{xor-bit}
use Rattle.opgen_streams.proofs.gates.different.Goals as goal

pub returns : goal.returns
returns c = xor-bit c.args.first c.args.second c.fits-first.0 c.fits-second.0
