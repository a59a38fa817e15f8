use Rattle.std.proofs.Common.{◌≡◌, ◌++◌, map, drop}
use Rattle.toml.specs.View.{items_view}
use Rattle.opgen_document.specs.Document.{list_of}
use Rattle.opgen_document.specs.Numbers.{coefficient, numerators}
use Rattle.opgen_document.proofs.number.numerators.Given as goal

abbrev pub invariant-items : goal.invariant-items
invariant-items l =
    l.numbers ++ map (coefficient l.power) (list_of (items_view (drop l.item-index l.items))) ≡ numerators (items_view l.items)
