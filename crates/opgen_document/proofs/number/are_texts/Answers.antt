use Rattle.std.proofs.Common.{◌≡◌, ◌<◌, false, List, [], ◌∷◌, length, refl, sym, arith}
use Rattle.toml.specs.declared.value.Value.{Value}
use Rattle.toml.specs.View.{items_view}
use Rattle.opgen_document.specs.Numbers.{are_texts}
use Rattle.opgen_document.proofs.number.are_texts.Goals as goal

none : (values : List Value) → length values < 1 → are_texts (items_view values) ≡ false
none [] l = refl
none (value ∷ values) l = absurd (omega (arith, l))

pub returns-in_default : goal.returns-in_default
returns-in_default c = sym (none c.args.items.now c.in_default.len_below)
