use Rattle.std.proofs.Common.{◌≡◌, ◌++◌, drop}
use Rattle.toml.specs.View.{items_view}
use Rattle.opgen_document.specs.Document.{in_tables}
use Rattle.opgen_entries.specs.kinds.Sop.{input_of}
use Rattle.opgen_entries.proofs.kinds.sop.inputs_of.Given as goal

abbrev pub invariant-items : goal.invariant-items
invariant-items l =
    l.inputs ++ in_tables input_of (items_view (drop l.item-index l.items)) ≡ in_tables input_of (items_view l.items)
