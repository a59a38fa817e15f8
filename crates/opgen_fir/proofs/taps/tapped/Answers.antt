use Rattle.std.proofs.Common.{length, ap, arith}
use Rattle.opgen_net.specs.declared.net.Net.{Net}
use Rattle.opgen_fir.proofs.Delays.{length-line}
use Rattle.opgen_fir.proofs.taps.tapped.Goals as goal

pub delay-requires-clause-there : goal.delay-requires-clause-there
delay-requires-clause-there c =
    omega (arith, ap (λ (n : Net). length n.nodes) c.delays.invariant.net, length-line c.args.sum.now.input.width c.delays.place)
