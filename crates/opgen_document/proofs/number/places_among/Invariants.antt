use Rattle.std.proofs.Common.{◌≡◌, ◌≤◌, max, drop}
use Rattle.toml.specs.View.{items_view}
use Rattle.opgen_document.specs.Numbers.{places_among}
use Rattle.opgen_document.proofs.number.places_among.Given as goal

abbrev pub invariant-items : goal.invariant-items
invariant-items l = record {
  value : max l.most (places_among (items_view (drop l.item-index l.items))) ≡ places_among (items_view l.items);
  bound : l.most ≤ 9;
}
