use Rattle.std.proofs.Common.{ℕ, ◌<◌, get_or}
use Rattle.std.specs.Prelude.{IsTrue}
use Rattle.opgen_ports.specs.declared.ports.PortFormat.{PortFormat}
use Rattle.opgen_operator.specs.GivenNames.{is_port_name}
use Rattle.opgen_operator.proofs.given_names.are_port_names.Given as goal

abbrev pub invariant-ports : goal.invariant-ports
invariant-ports l = (k : ℕ) (d : PortFormat) → k < l.port-index → IsTrue (is_port_name (get_or l.ports k d).name)
