use Rattle.std.proofs.Common.{◌-◌, arith}
use Rattle.opgen_num.proofs.BitLength.{power_order}
use Rattle.opgen_tfir.proofs.filter.half_unit.Goals as goal

pub returns-clause-small : goal.returns-clause-small
returns-clause-small c = omega (arith, power_order (c.args.low - 1) 47 (omega (arith, c.requires)))
