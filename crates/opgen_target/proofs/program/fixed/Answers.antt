use Rattle.opgen_target.proofs.FixedTable.{table-is}
use Rattle.opgen_target.proofs.program.fixed.Goals as goal

pub returns-clause-delays : goal.returns-clause-delays
returns-clause-delays c = λ class width fits. rw (c.new.ensures, c.in_ok-delays.ensures) (table-is class width fits)
