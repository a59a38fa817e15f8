use Rattle.std.proofs.Common.{◌≡◌, [], length, Some, slice_index, sym, ap, ◌∙◌, arith}
use Rattle.std.specs.Prelude.{slice_get}
use Rattle.std.proofs.lemmas.Nat.{pow_pos}
use Rattle.std.proofs.lemmas.Option.{get_or_from_slice_get}
use Rattle.opgen_net.specs.declared.node.Node.TheVariants.{Input, Constant, Cells, Choice, Table, Delay}
use Rattle.opgen_net.specs.Valid.{widths}
use Rattle.opgen_net.proofs.FlowLaws.{stands_at, length-widths, index_within}
use Rattle.opgen_net.proofs.FlowWidths.{are_widths}
use Rattle.opgen_net.proofs.Standing.{may_stand, width_at}
use Rattle.opgen_net.proofs.net.Net.width_of.Goals as goal

pub loop-of-smaller : goal.loop-of-smaller
loop-of-smaller c =
    let here : slice_get c.args.self.now.nodes c.loop-of.at ≡ Some (Delay c.in-Delay.of) = c.get.ensures ∙ ap Some c.in-Delay.is in
    let s = stands_at c.args.self.now.nodes c.requires.net.nodes c.loop-of.at (Delay c.in-Delay.of) here in
    omega (arith, s.stands, s.place)

pub loop-of-preserved : goal.loop-of-preserved
loop-of-preserved c =
    let here : slice_get c.args.self.now.nodes c.loop-of.at ≡ Some (Delay c.in-Delay.of) = c.get.ensures ∙ ap Some c.in-Delay.is in
    let s = may_stand c.args.self.now.nodes c.requires.net.nodes c.loop-of.at (Delay c.in-Delay.of) here in (
      omega (arith, s, length-widths c.args.self.now.nodes),
      sym (width_at c.args.self.now.nodes c.requires.net.nodes c.loop-of.at (Delay c.in-Delay.of) here) ∙ c.loop-of.invariant.1,
    )

pub returns-in-Input : goal.returns-in-Input
returns-in-Input c =
    sym (width_at c.args.self.now.nodes c.requires.net.nodes c.loop-of.at (Input c.in-Input.port c.in-Input.width)
    (c.get.ensures ∙ ap Some c.in-Input.is))
    ∙ c.loop-of.invariant.1

pub returns-in-Constant : goal.returns-in-Constant
returns-in-Constant c =
    c.width.ensures
    ∙ sym (width_at c.args.self.now.nodes c.requires.net.nodes c.loop-of.at (Constant c.in-Constant.word)
    (c.get.ensures ∙ ap Some c.in-Constant.is))
    ∙ c.loop-of.invariant.1

pub returns-in-Cells : goal.returns-in-Cells
returns-in-Cells c =
    sym (width_at c.args.self.now.nodes c.requires.net.nodes c.loop-of.at (Cells c.in-Cells.class c.in-Cells.width c.in-Cells.expr)
    (c.get.ensures ∙ ap Some c.in-Cells.is))
    ∙ c.loop-of.invariant.1

pub overflow_sub-result : goal.overflow_sub-result
overflow_sub-result c =
    let here : slice_get c.args.self.now.nodes c.loop-of.at ≡ Some (Choice c.in-Choice.on c.in-Choice.yes c.in-Choice.no) = c.get.ensures
    ∙ ap Some c.in-Choice.is in
    (may_stand c.args.self.now.nodes c.requires.net.nodes c.loop-of.at
    (Choice c.in-Choice.on c.in-Choice.yes c.in-Choice.no) here).one_lies.0

pub overflow_add-result : goal.overflow_add-result
overflow_add-result c =
    let here : slice_get c.args.self.now.nodes c.loop-of.at ≡ Some (Choice c.in-Choice.on c.in-Choice.yes c.in-Choice.no) = c.get.ensures
    ∙ ap Some c.in-Choice.is in
    let lies = (may_stand c.args.self.now.nodes c.requires.net.nodes c.loop-of.at
    (Choice c.in-Choice.on c.in-Choice.yes c.in-Choice.no) here).one_lies in
    let there = index_within (widths c.args.self.now.nodes) c.in-Choice.yes.node c.in-Choice.yes.high lies.1 in
    let wide = are_widths c.args.self.now.nodes c.requires.net.nodes c.in-Choice.yes.node
    (omega (arith, there, length-widths c.args.self.now.nodes)) in
    omega (arith, lies.1, wide.1)

pub returns-in-Choice : goal.returns-in-Choice
returns-in-Choice c =
    let here : slice_get c.args.self.now.nodes c.loop-of.at ≡ Some (Choice c.in-Choice.on c.in-Choice.yes c.in-Choice.no) = c.get.ensures
    ∙ ap Some c.in-Choice.is in
    let lies = (may_stand c.args.self.now.nodes c.requires.net.nodes c.loop-of.at
    (Choice c.in-Choice.on c.in-Choice.yes c.in-Choice.no) here).one_lies in
    let same = width_at c.args.self.now.nodes c.requires.net.nodes c.loop-of.at
    (Choice c.in-Choice.on c.in-Choice.yes c.in-Choice.no) here in
    omega (arith, lies.0, same, c.loop-of.invariant.1)

pub get-requires-in-Table : goal.get-requires-in-Table
get-requires-in-Table c =
    let here : slice_get c.args.self.now.nodes c.loop-of.at ≡ Some (Table c.in-Table.address c.in-Table.rows) = c.get.ensures
    ∙ ap Some c.in-Table.is in
    let fits = may_stand c.args.self.now.nodes c.requires.net.nodes c.loop-of.at (Table c.in-Table.address c.in-Table.rows) here in
    omega (arith, fits.row_for_each, pow_pos (slice_index (widths c.args.self.now.nodes) c.in-Table.address))

pub returns-in-Table : goal.returns-in-Table
returns-in-Table c =
    let here : slice_get c.args.self.now.nodes c.loop-of.at ≡ Some (Table c.in-Table.address c.in-Table.rows) = c.get.ensures
    ∙ ap Some c.in-Table.is in
    c.width-in-Table.ensures
    ∙ ap length (sym (get_or_from_slice_get c.in-Table.rows 0 c.get-in-Table.result.now [] c.get-in-Table.ensures))
    ∙ sym (width_at c.args.self.now.nodes c.requires.net.nodes c.loop-of.at (Table c.in-Table.address c.in-Table.rows) here)
    ∙ c.loop-of.invariant.1
