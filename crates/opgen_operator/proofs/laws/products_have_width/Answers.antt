use Rattle.opgen_kinds.proofs.of_kind.ProductWidths.{products_width}
use Rattle.opgen_operator.proofs.laws.products_have_width.Goals as goal

pub returns : goal.returns
returns c = products_width
