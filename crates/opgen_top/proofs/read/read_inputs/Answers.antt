use Rattle.std.proofs.Common.{ap, ◌∙◌, subst}
use Rattle.std.specs.Prelude.{IfOk}
use Rattle.opgen_design.specs.Run.{is_in}
use Rattle.opgen_sim.proofs.PortWidths.{widths_on, few_inputs, narrow_ports}
use Rattle.opgen_top.specs.Prepared.{HoldsRows, IfRefused}
use Rattle.opgen_top.specs.Simulate.{RefusesRows}
use Rattle.opgen_top.proofs.read.read_inputs.Goals as goal

pub read_rows-requires-clause-few : goal.read_rows-requires-clause-few
read_rows-requires-clause-few c =
    let widths = c.deref.ensures.value ∙ c.in_ok-widths.ensures ∙ ap (widths_on is_in) c.as_slice.ensures in
    rw widths (few_inputs c.args.design.now c.requires.numbers)

pub read_rows-requires-clause-narrow : goal.read_rows-requires-clause-narrow
read_rows-requires-clause-narrow c =
    let widths = c.deref.ensures.value ∙ c.in_ok-widths.ensures ∙ ap (widths_on is_in) c.as_slice.ensures in
    rw widths (narrow_ports is_in c.args.design.now c.requires.sound)

pub returns-clause-rows : goal.returns-clause-rows
returns-clause-rows c =
    let widths = c.deref.ensures.value ∙ c.in_ok-widths.ensures ∙ ap (widths_on is_in) c.as_slice.ensures in
    subst (λ ws. IfOk c.read_rows.result (HoldsRows ws c.args.vectors.now)) widths c.read_rows.ensures.rows

pub returns-clause-refused : goal.returns-clause-refused
returns-clause-refused c =
    let widths = c.deref.ensures.value ∙ c.in_ok-widths.ensures ∙ ap (widths_on is_in) c.as_slice.ensures in
    subst (λ ws. IfRefused c.read_rows.result (RefusesRows ws c.args.vectors.now)) widths c.read_rows.ensures.refused
