use Rattle.opgen_tfir.proofs.sums.widened.Goals as goal

pub operand-requires-clause-node : goal.operand-requires-clause-node
operand-requires-clause-node c = record { some = c.requires.from.0; most = c.requires.from.1; width = c.requires.node }
