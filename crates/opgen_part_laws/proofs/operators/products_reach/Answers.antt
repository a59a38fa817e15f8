use Rattle.opgen_kinds.proofs.of_kind.ProductWidths.{products_span}
use Rattle.opgen_part_laws.proofs.operators.products_reach.Goals as goal

pub returns : goal.returns
returns c p fits = products_span p
