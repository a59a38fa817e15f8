use Rattle.std.proofs.Common.{◌≡◌, take, map}
use Rattle.opgen_lanes.proofs.bank.port_widths.Given as goal

abbrev pub invariant-loop-port : goal.invariant-loop-port
invariant-loop-port l = l.widths.items ≡ map (λ p. p.width) (take l.port-index l.ports)
