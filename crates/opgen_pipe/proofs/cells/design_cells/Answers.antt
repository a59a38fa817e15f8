use Rattle.std.proofs.Common.{◌≡◌, ◌++◌, ℕ, List, length, refl, sym, ap, ◌∙◌, arith}
use Rattle.std.specs.Prelude.{Option, option_to_list, replicate, slice_get, slice_index}
use Rattle.std.proofs.lemmas.List.{append-nil, drop_all}
use Rattle.std.proofs.lemmas.Option.{slice_get_read}
use Rattle.opgen_net.specs.declared.cell.Cell.{Cell}
use Rattle.opgen_net.specs.declared.node.Node.{Node}
use Rattle.opgen_net.specs.Valid.{widths}
use Rattle.opgen_pipe.specs.Cells.{cell_of, node_cells, register_of}
use Rattle.opgen_pipe.specs.Copies.{copies}
use Rattle.opgen_pipe.specs.Layouts.{schedule_of}
use Rattle.opgen_pipe.specs.Pipelined.{all_of}
use Rattle.opgen_pipe.specs.Standings.{standing_of, standing_at}
use Rattle.opgen_pipe.proofs.CellLaws.{all-wide, node-stands}
use Rattle.opgen_pipe.proofs.Copied.{standing-is}
use Rattle.opgen_pipe.proofs.Fitting.{length-standings}
use Rattle.opgen_pipe.proofs.Steps.{all-more}
use Rattle.opgen_pipe.proofs.cells.design_cells.Goals as goal

pub cell_of-requires-clause-widths : goal.cell_of-requires-clause-widths
cell_of-requires-clause-widths c = all-wide c.args.net.now c.requires.valid c.args.widths.now c.requires.widths

pub cell_of-requires-clause-stands : goal.cell_of-requires-clause-stands
cell_of-requires-clause-stands c =
    node-stands c.args.net.now c.requires.valid c.args.widths.now c.requires.widths c.as_slice-nodes.result.now c.as_slice-nodes.ensures
    c.nodes.place c.index-nodes-place.result c.nodes-test.true c.index-nodes-place.is

pub bounds-standings-place : goal.bounds-standings-place
bounds-standings-place c =
    let standings = ap length (c.as_slice-standings.ensures.value ∙ c.requires.layout.standings) in
    omega (
      arith,
      c.nodes-test.true,
      ap length c.as_slice-nodes.ensures,
      standings,
      length-standings c.args.net.now (schedule_of c.args.layout.now),
    )

-- the cells of a node from its parts
node_cells-of : (ws vs : List ℕ) (count : ℕ → ℕ) (i : ℕ) (n : Node) (own : Option Cell) (k w : ℕ) → ws ≡ vs → own ≡ cell_of ws n
    → k ≡ count i → w ≡ slice_index ws i → option_to_list own ++ replicate k (register_of w) ≡ node_cells vs count i n
node_cells-of ws vs count i n own k w e f g h =
    ap (λ o. option_to_list o ++ replicate k (register_of w)) f
    ∙ ap (λ j. option_to_list (cell_of ws n) ++ replicate j (register_of w)) g
    ∙ ap (λ v. option_to_list (cell_of ws n) ++ replicate (count i) (register_of v)) h
    ∙ ap (λ us. node_cells us count i n) e

pub nodes-preserved : goal.nodes-preserved
nodes-preserved c =
    let net = c.args.net.now in
    let s = schedule_of c.args.layout.now in
    let ws = c.args.widths.now in
    let ns = c.as_slice-nodes.result.now in
    let i = c.nodes.place in
    let n = c.index-nodes-place.result in
    let there = ap (λ ms. slice_get ms i) (sym c.as_slice-nodes.ensures)
    ∙ slice_get_read ns (length ns) i n refl c.nodes-test.true c.index-nodes-place.is in
    let own : standing_at c.as_slice-standings.result.now i ≡ standing_of net s i n =
    ap (λ ps. standing_at ps i) (c.as_slice-standings.ensures.value ∙ c.requires.layout.standings) ∙ standing-is net s i n there in
    all-more (node_cells (widths net.nodes) (copies net s)) ns i n c.nodes.cells.items c.push_cells.new.cells.items c.nodes-test.true
    c.index-nodes-place.is
    (c.in_ok-push_cells.ensures ∙ ap (λ xs. c.nodes.cells.items ++ xs)
    (node_cells-of ws (widths net.nodes) (copies net s) i n c.cell_of.result _ _ c.requires.widths c.cell_of.ensures.cell
    (ap (λ o. o.copies) own) (ap (λ o. o.width) own ∙ ap (λ vs. slice_index vs i) (sym c.requires.widths))))
    ∙ c.nodes.invariant

pub returns : goal.returns
returns c =
    let net = c.args.net.now in
    sym (append-nil c.nodes.cells.items)
    ∙ ap (λ ns. c.nodes.cells.items ++ all_of (node_cells (widths net.nodes) (copies net (schedule_of c.args.layout.now))) c.nodes.place ns)
    (sym (drop_all c.nodes.place c.as_slice-nodes.result.now c.nodes-test.false))
    ∙ c.nodes.invariant
