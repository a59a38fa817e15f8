use Rattle.std.proofs.Common.{◌≡◌, ◌∙◌, ap, refl, rules, to_z, of_z, w32}
use Rattle.toml.specs.View.{table_view}
use Rattle.opgen_document.specs.declared.key.Key.TheVariants as key
use Rattle.opgen_document.specs.Document.{items_at}
use Rattle.opgen_document.specs.Numbers.{numerators}
use Rattle.opgen_entries.specs.kinds.Taps.{out_lsb_of}
use Rattle.opgen_entries.proofs.kinds.taps.taps_of.Goals as goal

pub returns : goal.returns
returns c =
    let ms = table_view c.args.table.now in
    let kept : to_z w32 (of_z w32 c.out_lsb_of.result) ≡ c.out_lsb_of.result = search rules in
    let lsb : to_z w32 (of_z w32 c.out_lsb_of.result) ≡ out_lsb_of ms = kept ∙ c.out_lsb_of.ensures in
    let numbers : c.in_ok-numerators.field-0 ≡ numerators (items_at ms key.Taps) =
    c.in_ok-numerators.ensures ∙ ap numerators c.items_at.ensures in
    rw (c.format_at.ensures, lsb, numbers, c.is_searched.ensures, c.count_at.ensures) refl
