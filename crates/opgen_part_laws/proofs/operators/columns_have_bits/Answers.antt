use Rattle.opgen_budget.proofs.Heights.{column-bits}
use Rattle.opgen_part_laws.proofs.operators.columns_have_bits.Goals as goal

pub returns : goal.returns
returns c = column-bits
