use Rattle.std.proofs.Common.{◌≡◌, ◌++◌, drop}
use Rattle.opgen_sim.specs.Rows.{is_of}
use Rattle.opgen_sim.proofs.PortWidths.{widths_on}
use Rattle.opgen_sim.proofs.widths.port_widths.Given as goal

abbrev pub invariant-loop-port : goal.invariant-loop-port
invariant-loop-port l = widths_on (is_of l.dir) l.ports ≡ l.widths.items ++ widths_on (is_of l.dir) (drop l.port-index l.ports)
