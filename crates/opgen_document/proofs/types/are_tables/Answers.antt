use Rattle.std.proofs.Common.{◌∙◌}
use Rattle.opgen_document.specs.Types.{is_table}
use Rattle.opgen_document.proofs.Trees.{all-items}
use Rattle.opgen_document.proofs.types.are_tables.Goals as goal

pub returns : goal.returns
returns c = c.all_tables.ensures ∙ all-items is_table c.args.items.now
