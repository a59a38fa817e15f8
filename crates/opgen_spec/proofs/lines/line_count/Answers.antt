use Rattle.std.proofs.Common.{rules}
use Rattle.opgen_document.proofs.Trees.{items-length}
use Rattle.opgen_spec.proofs.lines.line_count.Goals as goal

pub returns : goal.returns
returns c = rw (← items-length c.items_at.result.now) (search rules)
