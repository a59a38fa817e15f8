use Rattle.std.proofs.Common.{length, arith, ap}
use Rattle.opgen_num.specs.WordLaws.{length-word}
use Rattle.opgen_ports.proofs.history.output.Goals as goal

pub value-requires-clause-most : goal.value-requires-clause-most
value-requires-clause-most c = omega (arith, ap length c.new.ensures, length-word c.args.format.width c.args.bits)
