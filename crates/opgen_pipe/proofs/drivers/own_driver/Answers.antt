use Rattle.std.proofs.Common.{◌≡◌, ◌+◌, ◌<◌, ◌^◌, ℕ, Bool, List, [], length, map, sym, ap, ◌∙◌, subst, arith}
use Rattle.std.proofs.lemmas.List.{length-map, get_or-map}
use Rattle.opgen_design.specs.declared.design.Driver.TheVariants.{Assign, Choice, Table, Register}
use Rattle.opgen_design.specs.Sound.{AllReads}
use Rattle.opgen_design.specs.Tree.{Tree, name}
use Rattle.opgen_design.proofs.ReadLaws.{reads-weaker}
use Rattle.opgen_design.proofs.WidthLaws.{width-reads}
use Rattle.opgen_net.specs.Made.{addressed, last_row}
use Rattle.opgen_net.specs.Valid.{MayStand}
use Rattle.opgen_net.proofs.FlowLaws.{index_within, lies_within}
use Rattle.opgen_runs.proofs.Plain.{plain-name, plain-port, plain-bits}
use Rattle.opgen_pipe.specs.declared.standing.Standing.{Standing}
use Rattle.opgen_pipe.specs.Counts.{IsAny}
use Rattle.opgen_pipe.specs.Pipelined.{own_driver}
use Rattle.opgen_pipe.specs.Reading.{tree_in}
use Rattle.opgen_pipe.specs.Standings.{nowhere, standing_at}
use Rattle.opgen_pipe.proofs.drivers.own_driver.Goals as goal

-- a node with a width is there
there : (ps : List Standing) (i : ℕ) → i < length (map (λ p. p.width) ps) → i < length ps
there ps i l = omega (arith, l, length-map ps (λ p. p.width))

-- choices of equal parts are equal
choice-same : (to : ℕ) (a b d x y z : Tree) → a ≡ x → b ≡ y → d ≡ z → Choice to a b d ≡ Choice to x y z
choice-same to a b d x y z e f g = ap (λ t. Choice to t b d) e ∙ ap (λ t. Choice to x t d) f ∙ ap (λ t. Choice to x y t) g

-- tables of equal parts are equal
table-same : (to : ℕ) (a x : Tree) (rows rows' : List (List Bool × List Bool)) (other other' : List Bool) → a ≡ x → rows ≡ rows'
    → other ≡ other' → Table to a rows other ≡ Table to x rows' other'
table-same to a x rows rows' other other' e f g =
    ap (λ t. Table to t rows other) e ∙ ap (λ r. Table to x r other) f ∙ ap (Table to x rows') g

pub tree_in-requires-clause-there : goal.tree_in-requires-clause-there
tree_in-requires-clause-there c =
    let ps = c.args.standings.now in
    let ws = map (λ p. p.width) ps in
    let e = c.in-Cells.expr in
    let h = subst (MayStand ws) c.in-Cells.is c.requires.stands in
    subst (AllReads (λ j. j < length ps) IsAny) (sym c.expr.ensures)
    (
    reads-weaker (λ j. j < length ws) (λ p. p < 0) (λ j. j < length ps) IsAny (there ps) (λ p l. tt) e
    (width-reads ws [] e c.in-Cells.width h.1.has_width)
    )

pub read_in-requires-clause-there : goal.read_in-requires-clause-there
read_in-requires-clause-there c =
    let ps = c.args.standings.now in
    let ws = map (λ p. p.width) ps in
    let h = subst (MayStand ws) c.in-Choice.is c.requires.stands in
    there ps c.in-Choice.on (index_within ws c.in-Choice.on 0 (omega (arith, h.one_bit)))

pub slice_in-requires-clause-there : goal.slice_in-requires-clause-there
slice_in-requires-clause-there c =
    let ps = c.args.standings.now in
    let ws = map (λ p. p.width) ps in
    let h = subst (MayStand ws) c.in-Choice.is c.requires.stands in
    there ps c.in-Choice.yes.node (lies_within ws c.in-Choice.yes h.one_lies)

pub slice_in-requires-in-Choice-clause-there : goal.slice_in-requires-in-Choice-clause-there
slice_in-requires-in-Choice-clause-there c =
    let ps = c.args.standings.now in
    let ws = map (λ p. p.width) ps in
    let h = subst (MayStand ws) c.in-Choice.is c.requires.stands in
    there ps c.in-Choice.no.node (lies_within ws c.in-Choice.no h.other_lies)

pub read_in-requires-in-Table-clause-there : goal.read_in-requires-in-Table-clause-there
read_in-requires-in-Table-clause-there c =
    let ps = c.args.standings.now in
    let ws = map (λ p. p.width) ps in
    let h = subst (MayStand ws) c.in-Table.is c.requires.stands in
    there ps c.in-Table.address (index_within ws c.in-Table.address 0 (omega (arith, h.address_width.0)))

pub bounds-standings-address : goal.bounds-standings-address
bounds-standings-address c =
    let ps = c.args.standings.now in
    let ws = map (λ p. p.width) ps in
    let h = subst (MayStand ws) c.in-Table.is c.requires.stands in
    omega (arith, there ps c.in-Table.address (index_within ws c.in-Table.address 0 (omega (arith, h.address_width.0))))

pub read_in-requires-in-Delay-clause-there : goal.read_in-requires-in-Delay-clause-there
read_in-requires-in-Delay-clause-there c =
    let ps = c.args.standings.now in
    let ws = map (λ p. p.width) ps in
    there ps c.in-Delay.of (subst (MayStand ws) c.in-Delay.is c.requires.stands)

pub addressed-requires-clause-rows : goal.addressed-requires-clause-rows
addressed-requires-clause-rows c =
    let ps = c.args.standings.now in
    let ws = map (λ p. p.width) ps in
    let address = c.in-Table.address in
    let h = subst (MayStand ws) c.in-Table.is c.requires.stands in
    let l = there ps address (index_within ws address 0 (omega (arith, h.address_width.0))) in
    ap length c.as_slice-rows.ensures ∙ h.row_for_each ∙ ap (λ w. 2 ^ w) (get_or-map (λ p. p.width) ps address nowhere 0 l)

pub addressed-requires-clause-small : goal.addressed-requires-clause-small
addressed-requires-clause-small c =
    let ps = c.args.standings.now in
    let ws = map (λ p. p.width) ps in
    let address = c.in-Table.address in
    let h = subst (MayStand ws) c.in-Table.is c.requires.stands in
    let l = there ps address (index_within ws address 0 (omega (arith, h.address_width.0))) in
    omega (arith, get_or-map (λ p. p.width) ps address nowhere 0 l, h.address_width.1)

pub returns-in-Input : goal.returns-in-Input
returns-in-Input c =
    ap (Assign c.args.own.signal) (c.new.ensures ∙ plain-port (c.args.first + c.in-Input.port))
    ∙ sym (ap (own_driver c.args.first c.args.standings.now c.args.own) c.in-Input.is)

pub returns-in-Constant : goal.returns-in-Constant
returns-in-Constant c =
    ap (Assign c.args.own.signal) (c.new-in-Constant.ensures ∙ plain-bits c.in-Constant.word)
    ∙ sym (ap (own_driver c.args.first c.args.standings.now c.args.own) c.in-Constant.is)

pub returns-in_ok-tree-in-Cells : goal.returns-in_ok-tree-in-Cells
returns-in_ok-tree-in-Cells c =
    ap (Assign c.args.own.signal) (c.new-in-Cells.ensures ∙ c.in_ok-tree-in-Cells.ensures
    ∙ ap (tree_in c.args.standings.now c.args.own.slot.cycle) c.expr.ensures)
    ∙ sym (ap (own_driver c.args.first c.args.standings.now c.args.own) c.in-Cells.is)

pub returns-in-Choice : goal.returns-in-Choice
returns-in-Choice c =
    choice-same c.args.own.signal _ _ _ _ _ _
    (c.new-in-Choice.ensures ∙ plain-name c.read_in.result ∙ ap name c.read_in.ensures)
    (c.new-in-Choice-2.ensures ∙ c.slice_in.ensures)
    (c.new-in-Choice-3.ensures ∙ c.slice_in-in-Choice.ensures)
    ∙ sym (ap (own_driver c.args.first c.args.standings.now c.args.own) c.in-Choice.is)

pub returns-in-Delay : goal.returns-in-Delay
returns-in-Delay c =
    ap (Register c.args.own.signal) (c.new-in-Delay.ensures ∙ plain-name c.read_in-in-Delay.result ∙ ap name c.read_in-in-Delay.ensures)
    ∙ sym (ap (own_driver c.args.first c.args.standings.now c.args.own) c.in-Delay.is)

pub returns-in_ok-pairs-in-Table : goal.returns-in_ok-pairs-in-Table
returns-in_ok-pairs-in-Table c =
    let ps = c.args.standings.now in
    let address = c.in-Table.address in
    let width = (standing_at ps address).width in
    table-same c.args.own.signal _ _ _ _ _ _
    (c.new-in-Table.ensures ∙ plain-name c.read_in-in-Table.result ∙ ap name c.read_in-in-Table.ensures)
    (c.in_ok-pairs-in-Table.ensures ∙ ap (addressed width 0) c.as_slice-rows.ensures)
    (c.last_row.ensures ∙ ap last_row c.as_slice-rows.ensures)
    ∙ sym (ap (own_driver c.args.first ps c.args.own) c.in-Table.is)
