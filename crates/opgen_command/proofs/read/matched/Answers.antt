use Rattle.std.proofs.Common.{map, sym, ap, ◌∙◌}
use Rattle.std.specs.Prelude.{string_bytes}
use Rattle.std.proofs.lemmas.Bool.{and_parts}
use Rattle.opgen_command.specs.Command.{found_by}
use Rattle.opgen_command.proofs.Found.{usage_error, taken}
use Rattle.opgen_command.proofs.Names.{simple}
use Rattle.opgen_command.proofs.read.matched.Goals as goal

pub returns-in-Ok-try_get_matches_from-clause-found : goal.returns-in-Ok-try_get_matches_from-clause-found
returns-in-Ok-try_get_matches_from-clause-found c =
    let free = simple c.args.name _ c.in-Ok.ensures in
    let said = c.in-Ok-try_get_matches_from.ensures.matches (and_parts _ _ free).0 in
    sym (ap (λ app. found_by app (map string_bytes c.args.words.now)) c.in-Ok.ensures)
    ∙ taken _ _ _ (c.in-Ok-try_get_matches_from.ensures.kinds free) said.0

pub returns : goal.returns
returns c =
    let free = simple c.args.name _ c.in-Ok.ensures in
    record {
      found = tt;
      usage = λ _. sym (ap (λ app. found_by app (map string_bytes c.args.words.now)) c.in-Ok.ensures)
          ∙ usage_error _ _ c.in-Err.error (c.in-Err.ensures.kinds free)
          (λ memory. c.in_default-kind.not-OutOfMemory (c.kind.ensures ∙ memory));
    }
