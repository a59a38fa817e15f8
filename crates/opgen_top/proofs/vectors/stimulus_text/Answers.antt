use Rattle.std.proofs.Common.{sym, ◌∙◌, subst}
use Rattle.opgen_num.specs.Words.{AreRowsOfCells}
use Rattle.opgen_top.proofs.ServedPorts.{served_widths, served_columns, served_port}
use Rattle.opgen_top.proofs.vectors.stimulus_text.Goals as goal

pub run_text-requires-clause-some_port : goal.run_text-requires-clause-some_port
run_text-requires-clause-some_port c = served_port c.args.spec.now c.args.design c.requires.ports c.requires.valid.op.ranges

pub run_text-requires-clause-rows : goal.run_text-requires-clause-rows
run_text-requires-clause-rows c =
    subst (λ ws. AreRowsOfCells ws c.args.cycles c.in_ok-stimulus.field-0.cells.items)
    (sym (served_widths c.args.spec.now c.args.design c.requires.ports)) c.in_ok-stimulus.ensures.fit

pub run_text-requires-clause-columns : goal.run_text-requires-clause-columns
run_text-requires-clause-columns c =
    c.in_ok-stimulus.ensures.columns ∙ sym (served_columns c.args.spec.now c.args.design c.requires.ports)
