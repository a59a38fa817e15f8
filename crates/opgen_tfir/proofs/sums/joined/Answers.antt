use Rattle.std.proofs.Common.{sym, subst}
use Rattle.std.specs.Prelude.{IsTrue}
use Rattle.opgen_net.specs.Cells.{is_sum}
use Rattle.opgen_net.specs.Valid.{widths, FitsNodes}
use Rattle.opgen_tfir.proofs.Chains.{result-fits, result-sum}
use Rattle.opgen_tfir.proofs.sums.joined.Goals as goal

pub cells-requires-clause-fits : goal.cells-requires-clause-fits
cells-requires-clause-fits c =
    let a = c.args in
    subst (FitsNodes (widths a.net.now.nodes) a.width) (sym c.in_ok-result.ensures)
    (result-fits (widths a.net.now.nodes) a.negative a.node a.product a.width c.requires.width c.requires.node c.requires.product)

pub cells-requires-clause-class : goal.cells-requires-clause-class
cells-requires-clause-class c =
    let a = c.args in
    subst (λ e. IsTrue (is_sum e)) (sym c.in_ok-result.ensures) (result-sum a.negative a.node a.product)
