use Rattle.std.proofs.Common.{refl, append_assoc}
use Rattle.opgen_report.specs.Report.{cells_line}
use Rattle.opgen_report.proofs.parts.put_cells.Goals as goal

pub returns : goal.returns
unfolding cells_line
returns c = simp (append_assoc, c.in_ok-writeln.ensures.bytes, c.in_ok-write.ensures.bytes) refl
