use Rattle.std.proofs.Common.{◌∙◌}
use Rattle.opgen_entries.proofs.InputNames.{empty_view}
use Rattle.opgen_entries.proofs.kinds.sop.is_empty.Goals as goal

pub returns : goal.returns
returns c = c.is_empty.ensures ∙ empty_view c.args.items.now
