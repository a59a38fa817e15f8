use Rattle.std.proofs.Common.{arith}
use Rattle.opgen_net.proofs.FlowLaws.{length-widths}
use Rattle.opgen_net.proofs.net.Net.delay.Goals as goal

pub append-requires-clause-stands : goal.append-requires-clause-stands
append-requires-clause-stands c = omega (arith, length-widths c.args.self.now.nodes)
