use Rattle.opgen_part_laws.proofs.OneRow.{outputs_show_one_row}
use Rattle.opgen_part_laws.proofs.runs.outputs_show_one_row.Goals as goal

pub returns : goal.returns
returns c = outputs_show_one_row
