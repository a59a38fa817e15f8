use Rattle.opgen_laws.proofs.GoodRows.{circuits_good}
use Rattle.opgen_laws.proofs.circuits.circuits_check_good.Goals as goal

pub returns : goal.returns
returns c = circuits_good c.circuits_serve.ensures
