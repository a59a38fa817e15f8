use Rattle.std.proofs.Common.{sym, subst}
use Rattle.std.specs.Prelude.{IsTrue}
use Rattle.opgen_net.specs.Cells.{is_wire}
use Rattle.opgen_net.specs.Valid.{widths}
use Rattle.opgen_net.proofs.CellLaws.{word-wire}
use Rattle.opgen_net.proofs.net.Net.word_of_runs.Goals as goal

pub cells-requires-clause-class : goal.cells-requires-clause-class
cells-requires-clause-class c =
    subst (λ e. IsTrue (is_wire e)) (sym c.in_ok-expr-in_default.ensures) (word-wire (widths c.args.self.now.nodes) c.args.runs.now)
