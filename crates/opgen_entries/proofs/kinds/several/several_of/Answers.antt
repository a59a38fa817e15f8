use Rattle.std.proofs.Common.{◌≡◌, ◌∙◌, ap, refl}
use Rattle.toml.specs.View.{table_view}
use Rattle.opgen_document.specs.declared.key.Key.TheVariants as key
use Rattle.opgen_document.specs.Document.{items_at}
use Rattle.opgen_document.specs.Numbers.{numerators}
use Rattle.opgen_entries.proofs.kinds.several.several_of.Goals as goal

pub returns : goal.returns
returns c =
    let numbers : c.in_ok-numerators.field-0 ≡ numerators (items_at (table_view c.args.table.now) key.Constants) =
    c.in_ok-numerators.ensures ∙ ap numerators c.items_at.ensures in
    rw (c.format_at.ensures, numbers, c.is_searched.ensures, c.count_at.ensures) refl
