use Rattle.std.proofs.Common.{[], ◌∷◌, Result, Ok, Err, OnOk, refl, sym, subst}
use Rattle.opgen_net.specs.declared.cell.Class.TheVariants.{Logic}
use Rattle.opgen_design.specs.Plain.{plain}
use Rattle.opgen_net.specs.declared.node.Node.TheVariants.{Cells}
use Rattle.opgen_net.specs.Cells.{IsLogic}
use Rattle.opgen_net.specs.Placed.{with_last}
use Rattle.opgen_net.specs.Valid.{FitsNodes, widths}
use Rattle.opgen_net.proofs.Grown.{grown-more}
use Rattle.opgen_partial.specs.Law.{AreFactors}
use Rattle.opgen_partial.proofs.HeapSums.{factor-later}
use Rattle.opgen_partial.proofs.Operands.{product-fits, product-logic}
use Rattle.opgen_partial.proofs.pairs.add_product.Goals as goal

pub cells-requires-clause-fits : goal.cells-requires-clause-fits
cells-requires-clause-fits c =
    let p = c.args.products.now in
    let ws = widths c.args.work.now.net.nodes in
    subst (FitsNodes ws 1) (sym c.in_ok-expr.ensures)
    (product-fits p c.args.placing c.requires.placed c.args.i c.args.j c.requires.i c.requires.j ws c.requires.factors.first.width c.requires.factors.second.width)

pub cells-requires-clause-class : goal.cells-requires-clause-class
cells-requires-clause-class c =
    let p = c.args.products.now in
    let ws = widths c.args.work.now.net.nodes in
    subst (IsLogic ws) (sym c.in_ok-expr.ensures)
    (product-logic p c.args.placing c.requires.placed c.args.i c.args.j c.requires.i c.requires.j ws c.requires.factors.first.width c.requires.factors.second.width)

always : {A E P : Type 0} (r : Result A E) → P → OnOk r P
always (Ok x) p = p
always (Err e) p = tt

pub returns-clause-factors : goal.returns-clause-factors
returns-clause-factors c =
    let p = c.args.products.now in
    let net = c.args.work.now.net in
    let grown = grown-more net (Cells Logic 1 (plain c.in_ok-expr.expr) ∷ []) refl in
    let factors : AreFactors p (with_last net (Cells Logic 1 (plain c.in_ok-expr.expr))) = record {
      first = factor-later p.a net (with_last net (Cells Logic 1 (plain c.in_ok-expr.expr))) grown c.requires.factors.first;
      second = factor-later p.b net (with_last net (Cells Logic 1 (plain c.in_ok-expr.expr))) grown c.requires.factors.second;
    } in
    always c.add_bit-2.result (subst (AreFactors p) (sym c.in_ok-node.ensures.ok) factors)
