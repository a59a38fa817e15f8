use Rattle.std.proofs.Common.{◌≡◌, take}
use Rattle.opgen_terms.proofs.sop.Sop.inputs.Given as goal

abbrev pub invariant-inputs : goal.invariant-inputs
invariant-inputs l = l.ports.items ≡ take l.port-index l.self.inputs
