use Rattle.std.proofs.Common.{refl}
use Rattle.opgen_part_laws.proofs.rows.definitions_compute.Goals as goal

pub returns-clause-texts : goal.returns-clause-texts
returns-clause-texts c = record { row = refl; capitals = refl; two_lines = refl; run = refl; no_inputs = refl; no_outputs = refl }

pub returns-clause-draws : goal.returns-clause-draws
returns-clause-draws c = refl

pub returns-clause-streams : goal.returns-clause-streams
returns-clause-streams c = record { row = refl; no_row = refl; words = refl; stream = refl; rows = refl; second_word = refl }
