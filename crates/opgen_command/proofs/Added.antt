-- What a command takes once an argument is added.
use Rattle.std.proofs.Common.{◌≡◌, false, Result, Ok, Err, ◌∙◌, ap}
use Rattle.std.specs.Prelude.{IfOk}
use Rattle.clap.specs.Words.{App, AddsArg, app_of, rule_of, with_rule}
use Rattle.clap.specs.declared.builder.arg.Arg.{Arg}
use Rattle.clap.specs.declared.builder.command.Command.{Command}

pub added : {E : Type 0} (r : Result Command E) (old : Command) (arg : Arg) (taken : App) → IfOk r (AddsArg old arg) → arg.global ≡ false
    → app_of old ≡ taken → IfOk r (λ c. app_of c ≡ with_rule taken (rule_of arg))
added (Ok c) old arg taken adds local e = adds.shape local ∙ ap (λ app. with_rule app (rule_of arg)) e
added (Err refused) old arg taken adds local e = tt
