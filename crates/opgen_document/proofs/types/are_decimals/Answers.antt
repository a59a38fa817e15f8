use Rattle.std.proofs.Common.{◌∙◌}
use Rattle.opgen_document.specs.Types.{is_decimal}
use Rattle.opgen_document.proofs.Trees.{all-items}
use Rattle.opgen_document.proofs.types.are_decimals.Goals as goal

pub returns : goal.returns
returns c = c.all_decimals.ensures ∙ all-items is_decimal c.args.items.now
