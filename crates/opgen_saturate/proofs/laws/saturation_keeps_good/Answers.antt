use Rattle.opgen_saturate.proofs.Law.{keeps_good}
use Rattle.opgen_saturate.proofs.laws.saturation_keeps_good.Goals as goal

pub returns : goal.returns
returns c = keeps_good
