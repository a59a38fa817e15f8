use Rattle.std.proofs.Common.{◌∙◌, arith}
use Rattle.opgen_design.specs.Run.{input_widths}
use Rattle.opgen_top.proofs.PreparingChecks.{as_counted, few_counted, design_judged, verdict_listed}
use Rattle.opgen_top.proofs.check.judge_rows.Goals as goal

pub check_rows-requires-clause-rows : goal.check_rows-requires-clause-rows
check_rows-requires-clause-rows c =
    let rows = c.args.rows.now in
    as_counted (input_widths c.args.design) rows.inputs.columns rows.count rows.inputs.cells.items c.requires.columns c.requires.rows

pub check_rows-requires-clause-few : goal.check_rows-requires-clause-few
check_rows-requires-clause-few c =
    let rows = c.args.rows.now in
    let few = few_counted (input_widths c.args.design) rows.inputs.columns rows.count rows.inputs.cells.items c.requires.columns
    c.requires.rows in
    omega (arith, few, c.requires.few)

pub returns-in-Ok-clause-answer : goal.returns-in-Ok-clause-answer
returns-in-Ok-clause-answer c =
    let rows = c.args.rows.now in
    design_judged c.args.spec.now c.args.design c.args.latency rows.inputs.columns rows.count rows.inputs.cells.items c.in-Ok.checked _
    c.requires.valid c.requires.columns c.requires.rows c.in-Ok.ensures.agree c.in-Ok.ensures.checked
    (c.without_file.ensures ∙ c.verdict_line.ensures)

pub returns-in-Ok-clause-listed : goal.returns-in-Ok-clause-listed
returns-in-Ok-clause-listed c =
    verdict_listed c.in-Ok.checked _ (c.without_file.ensures ∙ c.verdict_line.ensures)
