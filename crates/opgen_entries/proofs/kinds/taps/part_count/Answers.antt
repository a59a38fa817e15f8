use Rattle.std.proofs.Common.{◌≡◌, ◌+◌, ◌++◌, map, take, drop, set, sym, subst, rules, ◌∙◌, ap, to_z, of_z, w64, arith}
use Rattle.std.specs.Prelude.{All}
use Rattle.toml.specs.View.{items_view}
use Rattle.opgen_document.specs.Document.{list_of}
use Rattle.opgen_ports.specs.Ranges.{IsWithin}
use Rattle.opgen_document.specs.Numbers.{coefficient}
use Rattle.opgen_entries.proofs.Filled.{filled, all_filled}
use Rattle.opgen_entries.proofs.kinds.taps.part_count.Goals as goal

pub odd_part_count-requires-clause-small : goal.odd_part_count-requires-clause-small
odd_part_count-requires-clause-small c =
    subst (All (IsWithin 2047)) (sym (all_filled (coefficient c.places_among-power.result) c.args.items.now c.items.place c.items.numbers _
    c.items.auto.place-end c.items-test.false c.items.invariant.so_far)) c.requires.small

pub items-preserved : goal.items-preserved
items-preserved c =
    let power = c.places_among-power.result in
    let rest = map (coefficient power) (list_of (items_view (drop (c.items.place + 1) c.args.items.now))) in
    let kept : to_z w64 (of_z w64 c.coefficient.result) ≡ c.coefficient.result = search rules in
    record {
      so_far = ap (λ n. take (c.items.place + 1) (set c.items.numbers c.items.place n) ++ rest) (kept ∙ c.coefficient.ensures)
          ∙ filled (coefficient power) c.args.items.now c.items.place c.index-items-place.result c.items.numbers c.items-test.true
          (omega (arith, c.items-test.true, c.requires.few, c.items.invariant.room)) c.index-items-place.is ∙ c.items.invariant.so_far;
      room = search rules;
    }
