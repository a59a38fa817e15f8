use Rattle.std.proofs.Common.{◌≡◌, false, map, sym, ap, ◌∙◌, refl}
use Rattle.std.specs.Char.{to_ascii_lowercase}
use Rattle.opgen_names.specs.Names.{is_allowed_name}
use Rattle.opgen_read.proofs.AllowedNames.{no_name}
use Rattle.opgen_read.proofs.name.allowed.Goals as goal

pub returns-in_default : goal.returns-in_default
returns-in_default c =
    let refused : is_allowed_name (map to_ascii_lowercase c.args.text.now) ≡ false =
    ap is_allowed_name (sym c.in_ok-lower.ensures.ok)
    ∙ no_name c.in_ok-lower.lower.items (λ h. let bad = c.in_default.ensures.succeeds h in cc) in
    rw refused refl
