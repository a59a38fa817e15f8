use Rattle.std.proofs.Common.{◌≡◌, ◌++◌, drop}
use Rattle.toml.specs.View.{items_view}
use Rattle.opgen_document.specs.Document.{in_tables}
use Rattle.opgen_entries.specs.kinds.Sop.{times_of}
use Rattle.opgen_entries.proofs.kinds.sop.all_times.Given as goal

abbrev pub invariant-items : goal.invariant-items
invariant-items l =
    l.products ++ in_tables (times_of (items_view l.inputs)) (items_view (drop l.item-index l.items)) ≡ in_tables (times_of (items_view l.inputs)) (items_view l.items)
