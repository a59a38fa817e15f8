use Rattle.std.proofs.Common.{◌≡◌, ◌+◌, ℕ, length, refl, sym, ap, ◌∙◌, subst, arith}
use Rattle.opgen_design.specs.declared.expr.Slice.{Slice}
use Rattle.opgen_design.specs.Tree.{Tree}
use Rattle.opgen_net.specs.declared.cell.Class.TheVariants as class
use Rattle.opgen_net.specs.declared.net.Net.{Net}
use Rattle.opgen_net.specs.declared.node.Node.TheVariants as node
use Rattle.std.specs.Prelude.{IsTrue}
use Rattle.opgen_net.specs.Cells.{IsLogic, is_sum}
use Rattle.opgen_net.specs.Valid.{FitsNodes, FitsChoice, widths}
use Rattle.opgen_net.specs.Placed.{with_last}
use Rattle.opgen_digits.specs.Digit.{is_not_negative, lowest, with_difference, with_digit, digit_place}
use Rattle.opgen_digits.proofs.Digit.{one-width, choice-fits}
use Rattle.opgen_digits.proofs.Expressions.{difference-fits, not_negative-fits, not_negative-logic}
use Rattle.opgen_digits.proofs.try_digit.Goals as goal

pub cells-requires-clause-fits : goal.cells-requires-clause-fits
cells-requires-clause-fits c =
    let ws = widths c.args.net.now.nodes in
    let a = c.args.trial.minuend in
    let b = c.args.trial.subtrahend in
    let are = c.requires.operands in
    subst (FitsNodes ws (c.args.trial.rest + 2)) (sym c.in_ok-difference.ensures)
    (difference-fits ws a b (c.args.trial.rest + 2) (omega arith, are.few) are.wide_a are.wide_b)

pub cells-requires-2-clause-fits : goal.cells-requires-2-clause-fits
cells-requires-2-clause-fits c =
    let net = c.args.net.now in
    let rest = c.args.trial.rest in
    let a = c.args.trial.minuend in
    let b = c.args.trial.subtrahend in
    let one : c.cells.new.self ≡ with_difference rest net a b =
    c.in_ok-difference-2.ensures.ok ∙ ap (λ (e : Tree). with_last net (node.Cells class.Add (rest + 2) e)) c.in_ok-difference.ensures in
    let place : length net.nodes ≡ c.in_ok-difference-2.difference = sym c.in_ok-difference-2.ensures.place in
    let fits =
    not_negative-fits (widths (with_difference rest net a b).nodes) rest (length net.nodes)
    (one-width rest net a b c.requires.net c.requires.operands) in
    subst (FitsNodes (widths c.cells.new.self.nodes) 1) (sym c.in_ok-not_negative.ensures)
    (subst (λ (n : ℕ). FitsNodes (widths c.cells.new.self.nodes) 1 (is_not_negative rest n)) place
    (subst (λ (n : Net). FitsNodes (widths n.nodes) 1 (is_not_negative rest (length net.nodes))) (sym one) fits))

pub cells-requires-clause-class : goal.cells-requires-clause-class
cells-requires-clause-class c = subst (λ e. IsTrue (is_sum e)) (sym c.in_ok-difference.ensures) refl

pub cells-requires-2-clause-class : goal.cells-requires-2-clause-class
cells-requires-2-clause-class c =
    subst (IsLogic (widths c.cells.new.self.nodes)) (sym c.in_ok-not_negative.ensures)
    (not_negative-logic (widths c.cells.new.self.nodes) c.args.trial.rest c.in_ok-difference-2.difference)

pub choice-requires-clause-fits : goal.choice-requires-clause-fits
choice-requires-clause-fits c =
    let net = c.args.net.now in
    let rest = c.args.trial.rest in
    let a = c.args.trial.minuend in
    let b = c.args.trial.subtrahend in
    let one : c.cells.new.self ≡ with_difference rest net a b =
    c.in_ok-difference-2.ensures.ok ∙ ap (λ (e : Tree). with_last net (node.Cells class.Add (rest + 2) e)) c.in_ok-difference.ensures in
    let place : c.in_ok-difference-2.difference ≡ length net.nodes = c.in_ok-difference-2.ensures.place in
    let two : c.cells-2.new.self ≡ with_digit rest net a b =
    c.in_ok-digit.ensures.ok
    ∙ ap (λ (e : Tree). with_last c.cells.new.self (node.Cells class.Logic 1 e))
    (c.in_ok-not_negative.ensures ∙ ap (is_not_negative rest) place)
    ∙ ap (λ (n : Net). with_last n (node.Cells class.Logic 1 (is_not_negative rest (length net.nodes)))) one in
    let place_q = digit_place rest net a b in
    let digit : c.in_ok-digit.digit ≡ place_q =
    c.in_ok-digit.ensures.place ∙ ap (λ (n : Net). length n.nodes) one in
    let first : c.lowest.result ≡ lowest rest (length net.nodes) = c.lowest.ensures ∙ ap (lowest rest) place in
    let fits = choice-fits rest net a b c.requires.net c.requires.operands in
    subst (FitsChoice (widths c.cells-2.new.self.nodes) c.in_ok-digit.digit c.lowest.result) (sym c.lowest-then-keep.ensures)
    (subst (λ (s : Slice). FitsChoice (widths c.cells-2.new.self.nodes) c.in_ok-digit.digit s (lowest rest a)) (sym first)
    (subst (λ (q : ℕ). FitsChoice (widths c.cells-2.new.self.nodes) q (lowest rest (length net.nodes)) (lowest rest a)) (sym digit)
    (subst (λ (n : Net). FitsChoice (widths n.nodes) place_q (lowest rest (length net.nodes)) (lowest rest a)) (sym two) fits)))
