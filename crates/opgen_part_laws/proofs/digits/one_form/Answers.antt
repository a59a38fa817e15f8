use Rattle.opgen_csd.proofs.Canonical.{unique}
use Rattle.opgen_csd.proofs.Existence.{some_form}
use Rattle.opgen_part_laws.proofs.digits.one_form.Goals as goal

pub returns-clause-some : goal.returns-clause-some
returns-clause-some c = some_form

pub returns-clause-one : goal.returns-clause-one
returns-clause-one c = unique
