use Rattle.std.proofs.Common.{ap, ◌∙◌, refl}
use Rattle.opgen_report.specs.Report.{report}
use Rattle.opgen_top.proofs.generate.make_files.Goals as goal

pub returns : goal.returns
returns c =
    let facts = c.in_ok-report_text.ensures ∙ ap (report c.args.spec.now c.args.circuit.now.planned) c.deref.ensures.value in
    rw (
      c.in_ok-with_files.ensures,
      c.in_ok-copy.ensures,
      c.in_ok-vhdl_name.ensures,
      c.in_ok-text.ensures,
      c.in_ok-report_name.ensures,
      facts,
      c.as_str-name.ensures,
    ) refl
