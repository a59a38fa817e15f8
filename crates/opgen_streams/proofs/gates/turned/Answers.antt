use Rattle.opgen_streams.proofs.WordByWord.{not-bit}
use Rattle.opgen_streams.proofs.gates.turned.Goals as goal

pub returns : goal.returns
returns c = not-bit c.args.bits c.fits-bits.0 c.fits-bits.1
