use Rattle.opgen_streams.proofs.WordByWord.{or-bit}
use Rattle.opgen_streams.proofs.gates.either.Goals as goal

pub returns : goal.returns
returns c = or-bit c.args.first c.args.second c.fits-first.0 c.fits-second.0
