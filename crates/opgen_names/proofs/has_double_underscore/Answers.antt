use Rattle.std.proofs.Common.{[], ◌∷◌}
use Rattle.std.proofs.lemmas.Str.Pattern.{contains_text}
use Rattle.std.specs.Bool.{one_answer}
use Rattle.std.specs.Str.Iter.{HasSubslice}
use Rattle.opgen_names.proofs.Underscores.{double_joined, double_split}
use Rattle.opgen_names.proofs.has_double_underscore.Goals as goal

pub returns : goal.returns
returns c =
    let name = c.args.name.now in
    one_answer {P = HasSubslice name (95 ∷ 95 ∷ [])} _ _ (contains_text _ (95 ∷ 95 ∷ []) name c.contains.ensures.cases)
    (double_split name, double_joined name)
