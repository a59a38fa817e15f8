use Rattle.std.proofs.Common.{◌≡◌, ◌<◌, [], ◌∷◌, length}
use Rattle.std.specs.Prelude.{codes}
use Rattle.opgen_net.specs.Valid.{IsValid}
use Rattle.test_parts.proofs.long.read_by_thousands.Given as goal

abbrev pub invariant-loop : goal.invariant-loop
invariant-loop g l = IsValid l.net × l.net.inputs ≡ (codes "x", 4) ∷ [] × l.net.outputs ≡ [] × (l.last < length l.net.nodes)
