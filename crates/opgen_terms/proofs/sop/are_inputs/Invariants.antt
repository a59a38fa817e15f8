use Rattle.std.proofs.Common.{ℕ, ◌<◌, get_or}
use Rattle.opgen_ports.specs.declared.ports.PortFormat.{PortFormat}
use Rattle.opgen_ports.specs.Ranges.{IsInput}
use Rattle.opgen_terms.proofs.sop.are_inputs.Given as goal

abbrev pub invariant-ports : goal.invariant-ports
invariant-ports l = (k : ℕ) (d : PortFormat) → k < l.port-index → IsInput (get_or l.ports k d).format
