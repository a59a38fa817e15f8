use Rattle.std.proofs.Common.{◌≡◌, map, drop, find}
use Rattle.toml.specs.View.{items_view}
use Rattle.opgen_document.specs.Document.{list_of}
use Rattle.opgen_document.specs.Numbers.{coefficient}
use Rattle.opgen_document.specs.Ranges.{is_beyond, first_beyond}
use Rattle.opgen_document.proofs.range.first_beyond.Given as goal

abbrev pub invariant-items : goal.invariant-items
invariant-items l =
    find (is_beyond l.limit) (map (coefficient l.power) (list_of (items_view (drop l.item-index l.items))))
    ≡ first_beyond l.limit (items_view l.items)
