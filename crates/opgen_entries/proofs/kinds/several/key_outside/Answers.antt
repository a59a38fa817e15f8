use Rattle.std.proofs.Common.{◌≡◌, ap, ◌∙◌}
use Rattle.toml.specs.View.{items_view, table_view}
use Rattle.opgen_document.specs.declared.key.Key.TheVariants as key
use Rattle.opgen_document.specs.Document.{items_at, is_searched}
use Rattle.opgen_entries.specs.kinds.Several.{constants_outside}
use Rattle.opgen_entries.proofs.kinds.several.key_outside.Goals as goal

pub returns-in-Constants : goal.returns-in-Constants
returns-in-Constants c =
    let ms = table_view c.args.table.now in
    let items : items_view c.items_at.result.now ≡ items_at ms key.Constants = c.items_at.ensures ∙ ap (items_at ms) c.in-Constants.is in
    rw c.in-Constants.is (c.constants_outside.ensures ∙ ap (λ searched. constants_outside searched (items_view c.items_at.result.now)) c.is_searched.ensures
    ∙ ap (constants_outside (is_searched ms)) items)
