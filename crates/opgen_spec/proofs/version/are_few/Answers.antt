use Rattle.std.proofs.Common.{rules}
use Rattle.opgen_document.proofs.Trees.{items-length}
use Rattle.opgen_spec.proofs.version.are_few.Goals as goal

pub returns : goal.returns
returns c = rw (items-length c.args.items.now) (search rules)
