use Rattle.opgen_streams.proofs.WordByWord.{and-bit}
use Rattle.opgen_streams.proofs.gates.both.Goals as goal

pub returns : goal.returns
returns c = and-bit c.args.first c.args.second c.fits-first.0 c.fits-second.0
