use Rattle.opgen_top.proofs.Refusing.{answers_given}
use Rattle.opgen_top.proofs.program.answer_words.Goals as goal

pub returns-in-Ok-clause-prepared : goal.returns-in-Ok-clause-prepared
returns-in-Ok-clause-prepared g c =
    rw c.in-Ok.ensures.command
    (answers_given c.answer_command.result c.with_refusal.result _ c.with_refusal.ensures c.answer_command.ensures.prepared)
