use Rattle.std.proofs.Common.{◌≡◌, ◌+◌, ◌-◌, sym, ap, ◌∙◌, subst, arith}
use Rattle.std.specs.Prelude.{slice_index}
use Rattle.opgen_net.specs.declared.cell.Class.TheVariants.{Logic}
use Rattle.opgen_net.specs.declared.net.Net.{Net}
use Rattle.opgen_net.specs.declared.node.Node.TheVariants.{Cells}
use Rattle.opgen_net.specs.Cells.{IsOfClass}
use Rattle.opgen_net.specs.Placed.{with_last}
use Rattle.opgen_net.specs.Valid.{FitsNodes, widths}
use Rattle.opgen_net.proofs.Appending.{width-append_before}
use Rattle.opgen_design.specs.Tree.{Tree}
use Rattle.opgen_saturate.specs.Recipe.{differs, stride, followed, with_row}
use Rattle.opgen_saturate.proofs.Groups.{followed-more, stride-few}
use Rattle.opgen_saturate.proofs.Rows.{bits-within, group-stands, node-within}
use Rattle.opgen_saturate.proofs.tree.push_row.Goals as goal

-- a group of six, and the last one

pub differs-requires-clause-few : goal.differs-requires-clause-few
differs-requires-clause-few c =
    let kept = c.row.invariant in
    omega (arith, bits-within c.args.both c.args.node c.row.net kept.valid c.row.from c.row.left kept.some kept.there, c.row-test.true)

pub cells-requires-clause-class : goal.cells-requires-clause-class
cells-requires-clause-class c =
    let kept = c.row.invariant in
    subst (IsOfClass (widths c.row.net.nodes) Logic) (sym c.in_ok-differs.ensures)
    (group-stands c.args.both c.args.node c.row.net c.row.from 6 (omega arith) (omega arith) (omega (arith, kept.there, c.row-test.true))).0

pub cells-requires-clause-fits : goal.cells-requires-clause-fits
cells-requires-clause-fits c =
    let kept = c.row.invariant in
    subst (FitsNodes (widths c.row.net.nodes) 1) (sym c.in_ok-differs.ensures)
    (group-stands c.args.both c.args.node c.row.net c.row.from 6 (omega arith) (omega arith) (omega (arith, kept.there, c.row-test.true))).1

pub differs-requires-2-clause-few : goal.differs-requires-2-clause-few
differs-requires-2-clause-few c =
    let kept = c.row.invariant in
    omega (arith, bits-within c.args.both c.args.node c.row.net kept.valid c.row.from c.row.left kept.some kept.there)

pub cells-requires-2-clause-class : goal.cells-requires-2-clause-class
cells-requires-2-clause-class c =
    let kept = c.row.invariant in
    subst (IsOfClass (widths c.row.net.nodes) Logic) (sym c.in_ok-differs-2.ensures)
    (group-stands c.args.both c.args.node c.row.net c.row.from c.row.left kept.some (omega (arith, c.row-test.false)) kept.there).0

pub cells-requires-2-clause-fits : goal.cells-requires-2-clause-fits
cells-requires-2-clause-fits c =
    let kept = c.row.invariant in
    subst (FitsNodes (widths c.row.net.nodes) 1) (sym c.in_ok-differs-2.ensures)
    (group-stands c.args.both c.args.node c.row.net c.row.from c.row.left kept.some (omega (arith, c.row-test.false)) kept.there).1

pub overflow_add-from : goal.overflow_add-from
overflow_add-from c =
    let kept = c.row.invariant in
    let most = bits-within c.args.both c.args.node c.row.net kept.valid c.row.from c.row.left kept.some kept.there in
    omega (arith, most, c.stride-step.ensures, c.row-test.true, (stride-few c.args.both).1)

pub row-preserved : goal.row-preserved
row-preserved c =
    let net = c.row.net in
    let node = c.args.node in
    let both = c.args.both in
    let from = c.row.from in
    let left = c.row.left in
    let step = c.stride-step.result in
    let kept = c.row.invariant in
    let few = stride-few both in
    let cell = Cells Logic 1 (differs both node from 6) in
    let grown : c.cells.new.self ≡ with_last net cell =
    c.in_ok-_group.ensures.ok ∙ ap (λ (e : Tree). with_last net (Cells Logic 1 e)) c.in_ok-differs.ensures in
    let there = node-within both node net from left kept.some kept.there in
    let still : slice_index (widths c.cells.new.self.nodes) node ≡ slice_index (widths net.nodes) node =
    ap (λ (n : Net). slice_index (widths n.nodes) node) grown ∙ width-append_before net.nodes cell node there in
    record {
      valid = c.cells.ensures.valid;
      some = omega (arith, c.stride-step.ensures, c.row-test.true, few.1);
      there = omega (arith, still, kept.there, c.stride-step.ensures, c.row-test.true, few.1);
      same = ap (λ s. with_row (followed both (left - s)) both node (from + s) (left - s) c.cells.new.self) c.stride-step.ensures
          ∙ ap (with_row (followed both (left - stride both)) both node (from + stride both) (left - stride both)) grown
          ∙ ap (λ k. with_row k both node from left net) (sym (followed-more both left c.row-test.true))
          ∙ kept.same;
    }
