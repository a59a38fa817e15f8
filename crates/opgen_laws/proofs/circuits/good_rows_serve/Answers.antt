use Rattle.opgen_laws.proofs.Certified.{good_rows_serve}
use Rattle.opgen_laws.proofs.circuits.good_rows_serve.Goals as goal

pub returns : goal.returns
returns c = good_rows_serve c.outputs_show_one_row.ensures
