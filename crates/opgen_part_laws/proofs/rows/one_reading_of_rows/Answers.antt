use Rattle.opgen_part_laws.proofs.OneReadingOfRows.{one_reading}
use Rattle.opgen_part_laws.proofs.rows.one_reading_of_rows.Goals as goal

pub returns : goal.returns
returns c = one_reading
