use Rattle.std.proofs.Common.{◌≡◌, ◌++◌, length, map, take, drop}
use Rattle.toml.specs.View.{items_view}
use Rattle.opgen_document.specs.Document.{list_of}
use Rattle.opgen_document.specs.Numbers.{coefficient, numerators}
use Rattle.opgen_entries.proofs.kinds.taps.part_count.Given as goal

abbrev pub invariant-items : goal.invariant-items
invariant-items l = record {
  so_far : take l.place l.numbers ++ map (coefficient l.power) (list_of (items_view (drop l.place l.items)))
      ≡ numerators (items_view l.items);
  room : length l.numbers ≡ 32;
}
