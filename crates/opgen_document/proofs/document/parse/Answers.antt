use Rattle.std.proofs.Common.{sym, ◌∙◌}
use Rattle.opgen_document.proofs.Trees.{tree-of_text}
use Rattle.opgen_document.proofs.document.parse.Goals as goal

pub returns-in-Ok-table_from_str : goal.returns-in-Ok-table_from_str
returns-in-Ok-table_from_str c =
    let (same, text) = c.in-Ok.ensures.cases in
    sym (tree-of_text _ text ∙ rw (← same) c.in-Ok-table_from_str.ensures.ok)
