-- That an accepted sum of products has no net is impossible.
use Rattle.std.proofs.Common.{⊎_elim, ℕ, ◌+◌, ◌^◌, ◌<◌, ◌≤◌, refl}
use Rattle.std.proofs.lemmas.Bool.{cases_lt}
use Rattle.opgen_net.specs.declared.net.Net.{Net}
use Rattle.opgen_terms.specs.declared.sop.Sop.{Sop}
use Rattle.opgen_terms.specs.Sop.{IsAcceptedSop}
use Rattle.opgen_sop.specs.Recipe.{IsNetOfSop, net_with}
use Rattle.opgen_sop.specs.Sizes.{floors, tables}
use Rattle.opgen_sop.proofs.Whole.{eleven-enough}
use Rattle.opgen_part_laws.proofs.Classical.{least}

-- with the least number of guard bits
pub some_sop_net : (s : Sop) → IsAcceptedSop s → ((net : Net) → IsNetOfSop s net → ⊥) → ⊥
some_sop_net s accepted found =
    least {P = λ g. tables s g + floors s g < 2 ^ g} 11 (eleven-enough s accepted) (λ guard here before.
    found (net_with s guard) (record {
      guard = guard;
      least = record {
        enough = here;
        least = λ g h. ⊎_elim (λ (lt : g < guard). absurd (before g lt h)) (λ (le : guard ≤ g). le) (cases_lt g guard);
      };
      made = refl;
    }))
