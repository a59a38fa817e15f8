use Rattle.std.proofs.Common.{◌≡◌, ap, ◌∙◌}
use Rattle.toml.specs.View.{items_view, table_view}
use Rattle.opgen_document.specs.declared.key.Key.TheVariants as key
use Rattle.opgen_document.specs.Document.{items_at, is_searched}
use Rattle.opgen_entries.specs.kinds.Taps.{taps_outside}
use Rattle.opgen_entries.proofs.kinds.taps.key_outside.Goals as goal

pub returns-in-Taps : goal.returns-in-Taps
returns-in-Taps c =
    let ms = table_view c.args.table.now in
    let items : items_view c.items_at.result.now ≡ items_at ms key.Taps = c.items_at.ensures ∙ ap (items_at ms) c.in-Taps.is in
    rw c.in-Taps.is (c.taps_outside.ensures ∙ ap (λ searched. taps_outside searched (items_view c.items_at.result.now)) c.is_searched.ensures
    ∙ ap (taps_outside (is_searched ms)) items)
