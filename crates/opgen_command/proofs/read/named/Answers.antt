use Rattle.std.proofs.Common.{refl}
use Rattle.opgen_command.proofs.Meaning.{carried, passed}
use Rattle.opgen_command.proofs.Names.{meaning, no_meaning}
use Rattle.opgen_command.specs.Names.{app_named}
use Rattle.opgen_command.proofs.read.named.Goals as goal

pub returns-in_err-found : goal.returns-in_err-found
returns-in_err-found c = passed _ _ _ c.from_residual.ensures.1
    (λ usage. no_meaning c.args.name (app_named c.args.name) _ refl (c.in_err-found.ensures.usage usage))

pub returns : goal.returns
returns c = carried _ _ _ (meaning c.args.name (app_named c.args.name) _ _ refl c.in_ok-found.ensures.found) c.command.ensures
