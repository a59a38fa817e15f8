use Rattle.std.proofs.Common.{arith}
use Rattle.opgen_machine.proofs.Laying.{below-64}
use Rattle.opgen_machine.proofs.tables.number.Goals as goal

pub overflow_cast-result : goal.overflow_cast-result
overflow_cast-result c = omega (arith, c.bits.ensures, below-64 c.args.word c.requires)
