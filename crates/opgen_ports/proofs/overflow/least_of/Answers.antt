use Rattle.std.proofs.Common.{◌-◌, arith}
use Rattle.opgen_num.proofs.BitLength.{power_order}
use Rattle.opgen_ports.proofs.overflow.least_of.Goals as goal

pub raised-requires-clause-small : goal.raised-requires-clause-small
raised-requires-clause-small c = omega (arith, power_order (c.args.to.width - 1) 126 (omega (arith, c.requires.1)))
