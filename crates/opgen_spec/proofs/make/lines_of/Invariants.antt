use Rattle.std.proofs.Common.{◌≡◌, ◌++◌, drop}
use Rattle.toml.specs.View.{items_view}
use Rattle.opgen_document.specs.Document.{in_tables}
use Rattle.opgen_spec.specs.Spec.{line_of}
use Rattle.opgen_spec.proofs.make.lines_of.Given as goal

abbrev pub invariant-items : goal.invariant-items
invariant-items l = l.lines ++ in_tables line_of (items_view (drop l.item-index l.items)) ≡ in_tables line_of (items_view l.items)
