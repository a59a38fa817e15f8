use Rattle.std.proofs.Common.{ℕ, ◌<◌, get_or}
use Rattle.std.specs.Prelude.{◌≢◌}
use Rattle.opgen_ports.specs.declared.ports.PortFormat.{PortFormat}
use Rattle.opgen_operator.proofs.given_names.differ.Given as goal

abbrev pub invariant-ports : goal.invariant-ports
invariant-ports l = (i j : ℕ) (d : PortFormat) → i < j → j < l.place → (get_or l.ports i d).name ≢ (get_or l.ports j d).name
