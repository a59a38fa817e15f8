-- What a document of version 4 without a fault does not ask for, since no circuits of it are made yet.
use Rattle.std.proofs.Common.{◌≡◌, true, Option, Some, None, is_none, refl, ap, sym, ◌∙◌}
use Rattle.std.specs.Option.{option_map_or}
use Rattle.std.proofs.lemmas.Bool.{and_parts}
use Rattle.toml.specs.Data.{Data, Members}
use Rattle.opgen_operator.specs.declared.kind.Kind.{Kind}
use Rattle.opgen_document.specs.declared.key.Key.TheVariants as key
use Rattle.opgen_document.specs.declared.key.Version.TheVariants.{Fourth}
use Rattle.opgen_document.specs.Document.{value_at, version_of}
use Rattle.opgen_entries.specs.kinds.{kind_of}
use Rattle.opgen_spec.specs.Made.{is_kind_made, has_six_inputs, is_plain, is_fourth_made, is_made_in}
use Rattle.opgen_spec.proofs.Fine.{AreFine}
use Rattle.opgen_spec.proofs.Versions.{made}

fourth_made : (ms : Members) → AreFine ms → version_of ms ≡ Fourth → is_fourth_made ms ≡ true
fourth_made ms f is = ap (λ version. is_made_in version ms) (sym is) ∙ made ms f

pub kind_made : (ms : Members) (one : Kind) → AreFine ms → kind_of ms ≡ Some one → version_of ms ≡ Fourth → is_kind_made one ms ≡ true
kind_made ms one f e is =
    ap (λ o. option_map_or (λ one. is_kind_made one ms) o true) (sym e)
    ∙ (and_parts (is_plain ms) (option_map_or (λ one. is_kind_made one ms) (kind_of ms) true) (fourth_made ms f is)).1

pub nothing : (o : Option Data) → is_none o ≡ true → o ≡ None
nothing None h = refl
nothing (Some d) h = cc

pub not_rounded : (ms : Members) → AreFine ms → version_of ms ≡ Fourth → value_at ms key.Rounding ≡ None
not_rounded ms f is =
    let plain = (and_parts (is_plain ms) (option_map_or (λ one. is_kind_made one ms) (kind_of ms) true) (fourth_made ms f is)).0 in
    nothing (value_at ms key.Rounding) (and_parts (is_none (value_at ms key.Rounding)) (has_six_inputs ms) plain).0
