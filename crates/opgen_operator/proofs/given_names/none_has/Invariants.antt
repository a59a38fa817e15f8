use Rattle.std.proofs.Common.{ℕ, ◌<◌, get_or}
use Rattle.std.specs.Prelude.{◌≢◌}
use Rattle.opgen_ports.specs.declared.ports.PortFormat.{PortFormat}
use Rattle.opgen_operator.proofs.given_names.none_has.Given as goal

abbrev pub invariant-ports : goal.invariant-ports
invariant-ports l = (k : ℕ) (d : PortFormat) → k < l.port-index → (get_or l.ports k d).name ≢ l.name
