-- The names of the commands: how each is spelled, what it takes, and the command that what was found means.
use Rattle.std.specs.Prelude.{ℕ, List, Option, codes}
use Rattle.clap.specs.Words.{App, Row}
use Rattle.opgen_command.specs.Apps.{generate_app, vectors_app, simulate_app, workload_app, check_app}
use Rattle.opgen_command.specs.Command.{generate_of, vectors_of, simulate_of, workload_of, check_of}
use Rattle.opgen_command.specs.declared.command.Command.{Command}
use Rattle.opgen_command.specs.declared.name.CommandName.{CommandName}
use Rattle.opgen_command.specs.declared.name.CommandName.TheVariants.{Generate, Vectors, Simulate, Workload, Check}

-- the word that names a command
abbrev pub spelling : CommandName → List ℕ
spelling Generate = codes "generate"
spelling Vectors = codes "vectors"
spelling Simulate = codes "simulate"
spelling Workload = codes "workload"
spelling Check = codes "check"

-- what the command takes
abbrev pub app_named : CommandName → App
app_named Generate = generate_app
app_named Vectors = vectors_app
app_named Simulate = simulate_app
app_named Workload = workload_app
app_named Check = check_app

-- the command, by what was found in its words
abbrev pub found_as : CommandName → List Row → Option Command
found_as Generate = generate_of
found_as Vectors = vectors_of
found_as Simulate = simulate_of
found_as Workload = workload_of
found_as Check = check_of
