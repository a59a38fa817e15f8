use Rattle.std.proofs.Common.{ℕ, ◌<◌, ◌≤◌, get_or}
use Rattle.opgen_ports.specs.declared.ports.PortFormat.{PortFormat}
use Rattle.opgen_terms.proofs.sop.Sop.has_inputs_within.Given as goal

abbrev pub invariant-inputs : goal.invariant-inputs
invariant-inputs l = (k : ℕ) (d : PortFormat) → k < l.port-index → (get_or l.self.inputs k d).format.width ≤ l.most
