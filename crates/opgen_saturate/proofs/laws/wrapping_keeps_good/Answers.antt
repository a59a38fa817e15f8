use Rattle.opgen_saturate.proofs.Law.{keeps_wrapped}
use Rattle.opgen_saturate.proofs.laws.wrapping_keeps_good.Goals as goal

pub returns : goal.returns
returns c = keeps_wrapped
