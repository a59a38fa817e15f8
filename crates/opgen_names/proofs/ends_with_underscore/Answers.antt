use Rattle.std.proofs.Common.{lit<}
use Rattle.std.proofs.lemmas.Str.Pattern.{ends_char}
use Rattle.std.specs.Bool.{one_answer}
use Rattle.opgen_names.proofs.Underscores.{ends_joined, ends_split, EndsInUnderscore}
use Rattle.opgen_names.proofs.ends_with_underscore.Goals as goal

pub returns : goal.returns
returns c =
    let name = c.args.name.now in
    let (splits, joins) = ends_char 95 name _ c.ends_with.ensures.cases (lit< tt) in
    one_answer {P = EndsInUnderscore name} _ _ (λ h. (_, splits h), λ (front, same). joins front same) (ends_split name, ends_joined name)
