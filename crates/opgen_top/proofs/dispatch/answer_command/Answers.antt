use Rattle.opgen_top.proofs.dispatch.answer_command.Goals as goal

pub returns-in-Generate-clause-prepared : goal.returns-in-Generate-clause-prepared
returns-in-Generate-clause-prepared g c = rw (c.in-Generate.is, ← c.as_str-spec.ensures) c.generate.ensures.prepared
