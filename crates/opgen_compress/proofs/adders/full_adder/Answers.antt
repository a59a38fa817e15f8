use Rattle.std.proofs.Common.{◌≡◌, [], ◌∷◌, ◌++◌, sym, ap, ◌∙◌, subst, rules}
use Rattle.std.specs.Prelude.{All}
use Rattle.opgen_net.specs.declared.cell.Class.TheVariants.{Logic}
use Rattle.opgen_net.specs.declared.node.Node.TheVariants.{Cells}
use Rattle.opgen_net.specs.Cells.{IsLogic}
use Rattle.opgen_net.specs.Valid.{widths, FitsNodes}
use Rattle.opgen_net.specs.WordRule.{IsThere}
use Rattle.opgen_compress.specs.Adder.{Work, full_sum, with_logic, full_adder}
use Rattle.opgen_compress.specs.Kept.{WorkThere}
use Rattle.opgen_compress.proofs.Operands.{full_sum-fits, full_sum-logic, full_carry-fits, full_carry-logic}
use Rattle.opgen_compress.proofs.Reduced.{full-reduced, front-three, full-still_there}
use Rattle.opgen_compress.proofs.adders.full_adder.Goals as goal

pub logic-requires-clause-fits : goal.logic-requires-clause-fits
logic-requires-clause-fits c =
    let net = c.args.net.now in
    let P = IsThere (widths net.nodes) in
    let column : c.args.column.now ≡ c.take-a.result ∷ c.take-b.result ∷ c.take-c.result ∷ c.take-c.new.self = search rules in
    let front = front-three P c.take-a.result c.take-b.result c.take-c.result c.take-c.new.self
    (subst (All P) column c.requires.there.column) in
    subst (FitsNodes (widths net.nodes) 1) (sym c.in_ok-sum.ensures)
    (full_sum-fits (widths net.nodes) c.take-a.result c.take-b.result c.take-c.result front)

pub logic-requires-clause-logic : goal.logic-requires-clause-logic
logic-requires-clause-logic c =
    let net = c.args.net.now in
    let P = IsThere (widths net.nodes) in
    let column : c.args.column.now ≡ c.take-a.result ∷ c.take-b.result ∷ c.take-c.result ∷ c.take-c.new.self = search rules in
    let front = front-three P c.take-a.result c.take-b.result c.take-c.result c.take-c.new.self
    (subst (All P) column c.requires.there.column) in
    subst (IsLogic (widths net.nodes)) (sym c.in_ok-sum.ensures)
    (full_sum-logic (widths net.nodes) c.take-a.result c.take-b.result c.take-c.result front)

pub returns-then-top-clause-there : goal.returns-then-top-clause-there
returns-then-top-clause-there c =
    let after : Work = record { net = c.logic.new.net; column = c.push.new.self; carries = c.args.carries.now } in
    let ok : full_adder c.args.top c.args.net.now c.args.column.now c.args.carries.now ≡ after = search rules in
    subst WorkThere ok (full-reduced c.args.top c.args.net.now c.requires.net c.args.carries.now c.requires.there.carries c.args.column.now
    c.requires.there.column).there

pub full_carry-requires-clause-there : goal.full_carry-requires-clause-there
full_carry-requires-clause-there c =
    let net = c.args.net.now in
    let column : c.args.column.now ≡ c.take-a.result ∷ c.take-b.result ∷ c.take-c.result ∷ c.take-c.new.self = search rules in
    let one : c.logic.new.net ≡ with_logic net (full_sum c.take-a.result c.take-b.result c.take-c.result) = c.in_ok-logic.ensures.ok
    ∙ ap (λ e. record net { nodes = net.nodes ++ Cells Logic 1 e ∷ [] }) c.in_ok-sum.ensures in
    full-still_there net c.logic.new.net c.args.column.now c.take-a.result c.take-b.result c.take-c.result c.take-c.new.self c.requires.net
    c.requires.there.column column one

pub logic-requires-2-clause-fits : goal.logic-requires-2-clause-fits
logic-requires-2-clause-fits c =
    let net = c.args.net.now in
    let column : c.args.column.now ≡ c.take-a.result ∷ c.take-b.result ∷ c.take-c.result ∷ c.take-c.new.self = search rules in
    let one : c.logic.new.net ≡ with_logic net (full_sum c.take-a.result c.take-b.result c.take-c.result) = c.in_ok-logic.ensures.ok
    ∙ ap (λ e. record net { nodes = net.nodes ++ Cells Logic 1 e ∷ [] }) c.in_ok-sum.ensures in
    let ws = widths c.logic.new.net.nodes in
    subst (FitsNodes ws 1) (sym c.in_ok-majority.ensures)
    (full_carry-fits ws c.take-a.result c.take-b.result c.take-c.result
    (full-still_there net c.logic.new.net c.args.column.now c.take-a.result c.take-b.result c.take-c.result c.take-c.new.self
    c.requires.net c.requires.there.column column one))

pub logic-requires-2-clause-logic : goal.logic-requires-2-clause-logic
logic-requires-2-clause-logic c =
    let net = c.args.net.now in
    let column : c.args.column.now ≡ c.take-a.result ∷ c.take-b.result ∷ c.take-c.result ∷ c.take-c.new.self = search rules in
    let one : c.logic.new.net ≡ with_logic net (full_sum c.take-a.result c.take-b.result c.take-c.result) = c.in_ok-logic.ensures.ok
    ∙ ap (λ e. record net { nodes = net.nodes ++ Cells Logic 1 e ∷ [] }) c.in_ok-sum.ensures in
    let ws = widths c.logic.new.net.nodes in
    subst (IsLogic ws) (sym c.in_ok-majority.ensures)
    (full_carry-logic ws c.take-a.result c.take-b.result c.take-c.result
    (full-still_there net c.logic.new.net c.args.column.now c.take-a.result c.take-b.result c.take-c.result c.take-c.new.self
    c.requires.net c.requires.there.column column one))

pub returns-clause-there : goal.returns-clause-there
returns-clause-there c =
    let after : Work = record { net = c.logic-2.new.net; column = c.push.new.self; carries = c.push-2.new.self } in
    let ok : full_adder c.args.top c.args.net.now c.args.column.now c.args.carries.now ≡ after = search rules in
    subst WorkThere ok (full-reduced c.args.top c.args.net.now c.requires.net c.args.carries.now c.requires.there.carries c.args.column.now
    c.requires.there.column).there
