use Rattle.opgen_laws.proofs.Recalling.{good_outputs_recall}
use Rattle.opgen_laws.proofs.circuits.good_outputs_recall.Goals as goal

pub returns : goal.returns
returns c = good_outputs_recall
