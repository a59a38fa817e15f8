use Rattle.std.proofs.Common.{arith}
use Rattle.opgen_budget.proofs.Heights.{column-bits}
use Rattle.opgen_budget.proofs.columns.bits_in_column.Goals as goal

pub returns-clause-value : goal.returns-clause-value
returns-clause-value c = omega (arith, column-bits c.args.m c.args.n c.args.column)
