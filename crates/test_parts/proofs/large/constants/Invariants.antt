use Rattle.std.proofs.Common.{◌≡◌, [], ◌∷◌}
use Rattle.std.specs.Prelude.{codes}
use Rattle.opgen_net.specs.Valid.{IsValid}
use Rattle.test_parts.proofs.large.constants.Given as goal

abbrev pub invariant-loop : goal.invariant-loop
invariant-loop l = IsValid l.net × l.net.inputs ≡ (codes "x", 1) ∷ [] × l.net.outputs
    ≡ (record { name = codes "y"; from = record { node = 0; high = 0; low = 0 } }) ∷ []
