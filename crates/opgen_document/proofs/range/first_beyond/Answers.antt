use Rattle.std.proofs.Common.{◌≡◌, rules, arith, to_z, of_z, w64, true, false, ◌∙◌, ap, Some}
use Rattle.toml.specs.View.{view}
use Rattle.opgen_document.specs.Numbers.{coefficient}
use Rattle.opgen_document.specs.Ranges.{is_beyond}
use Rattle.opgen_document.proofs.Trees.{find_here, find_past}
use Rattle.opgen_document.proofs.range.first_beyond.Goals as goal

pub returns-then-is_beyond : goal.returns-then-is_beyond
returns-then-is_beyond c =
    let same : to_z w64 (of_z w64 c.coefficient-n.result) ≡ c.coefficient-n.result = search rules in
    let beyond : is_beyond c.args.limit (coefficient c.places_among-power.result (view c.item-item.result)) ≡ true = search rules in
    ap Some (same ∙ c.coefficient-n.ensures) ∙ find_here (is_beyond c.args.limit) (coefficient c.places_among-power.result) c.args.items.now
    c.items.item-index c.item-item.result (omega arith) c.item-item.is _ c.items.invariant beyond

pub items-preserved : goal.items-preserved
items-preserved c =
    let within : is_beyond c.args.limit (coefficient c.places_among-power.result (view c.item-item.result)) ≡ false = search rules in
    find_past (is_beyond c.args.limit) (coefficient c.places_among-power.result) c.args.items.now c.items.item-index c.item-item.result
    (omega arith) c.item-item.is _ c.items.invariant within
