use Rattle.opgen_command.proofs.apps.check.Goals as goal

pub returns : goal.returns
returns c =
    let files = rw (c.word.ensures.rule, c.word-2.ensures.rule, c.word-3.ensures.rule) at c.with_three-files.ensures in
    rw c.number_word.ensures.rule at c.with.ensures _ files
