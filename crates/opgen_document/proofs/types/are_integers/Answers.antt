use Rattle.std.proofs.Common.{◌∙◌}
use Rattle.opgen_document.specs.Types.{is_integer}
use Rattle.opgen_document.proofs.Trees.{all-items}
use Rattle.opgen_document.proofs.types.are_integers.Goals as goal

pub returns : goal.returns
returns c = c.all_integers.ensures ∙ all-items is_integer c.args.items.now
