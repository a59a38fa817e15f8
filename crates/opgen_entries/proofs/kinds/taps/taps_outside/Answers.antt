use Rattle.std.proofs.Common.{◌≡◌, None, sym, ◌∙◌, ap, arith}
use Rattle.std.proofs.lemmas.List.{length-map}
use Rattle.toml.specs.View.{items_view}
use Rattle.opgen_document.specs.Document.{list_of}
use Rattle.opgen_document.specs.Numbers.{coefficient, places_among}
use Rattle.opgen_document.specs.Ranges.{array_outside}
use Rattle.opgen_entries.proofs.Arrays.{array_in}
use Rattle.opgen_document.proofs.Trees.{items-length}
use Rattle.opgen_entries.proofs.kinds.taps.taps_outside.Goals as goal

pub parts_outside-requires-clause-few : goal.parts_outside-requires-clause-few
parts_outside-requires-clause-few c =
    let items = items_view c.args.items.now in
    let none : array_outside 1 32 2047 items ≡ None =
    ap (λ limit. array_outside 1 32 limit items) (sym c.constant_limit-2.ensures) ∙ sym c.in-None.ensures in
    let array = array_in 1 32 2047 items none in
    omega (arith, array.few, length-map (list_of items) (coefficient (places_among items)), items-length c.args.items.now)

pub parts_outside-requires-clause-small : goal.parts_outside-requires-clause-small
parts_outside-requires-clause-small c =
    let items = items_view c.args.items.now in
    let none : array_outside 1 32 2047 items ≡ None =
    ap (λ limit. array_outside 1 32 limit items) (sym c.constant_limit-2.ensures) ∙ sym c.in-None.ensures in
    (array_in 1 32 2047 items none).each
