use Rattle.opgen_top.proofs.NetsFit.{nets_fit}
use Rattle.opgen_top.proofs.laws.nets_fit.Goals as goal

pub returns : goal.returns
returns c = nets_fit
