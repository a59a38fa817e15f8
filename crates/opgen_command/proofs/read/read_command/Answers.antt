use Rattle.std.proofs.Common.{string_bytes, refl}
use Rattle.opgen_command.proofs.Meaning.{carried, the_command, the_usage, the_ranges}
use Rattle.opgen_command.proofs.Names.{named, unnamed}
use Rattle.opgen_command.proofs.read.read_command.Goals as goal

pub returns-in-Some-command_name : goal.returns-in-Some-command_name
returns-in-Some-command_name c =
    let read = carried _ _ _ (named string_bytes c.args.words.now c.in-Some.word.now c.as_str.result.now c.in-Some.ensures.value
    c.as_str.ensures.value c.in-Some-command_name.name c.in-Some-command_name.ensures.named) c.named.ensures in
    record { command = the_command _ _ read; usage = the_usage _ _ read; ranges = the_ranges _ _ read }

pub returns-in-None-clause-usage : goal.returns-in-None-clause-usage
returns-in-None-clause-usage c = λ _.
    unnamed string_bytes c.args.words.now c.in-Some.word.now c.as_str.result.now c.in-Some.ensures.value c.as_str.ensures.value
    (c.in-None.ensures.unnamed refl)
