use Rattle.opgen_num.proofs.BitLength.{length_holds, length_least}
use Rattle.opgen_num.proofs.number.bit_length.Goals as goal

pub returns-clause-holds : goal.returns-clause-holds
returns-clause-holds c = length_holds 128 c.args.n c.ranges.n.fits

pub returns-clause-least : goal.returns-clause-least
returns-clause-least c = length_least 128 c.args.n c.ranges.n.fits
