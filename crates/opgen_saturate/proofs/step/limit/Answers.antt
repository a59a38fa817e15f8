use Rattle.std.proofs.Common.{◌≡◌, ℕ, ◌+◌, ◌-◌, ◌^◌, if◌then◌else◌, List, Bool, length, refl, sym, ap, ◌∙◌, subst}
use Rattle.opgen_design.specs.declared.expr.Slice.{Slice}
use Rattle.opgen_design.specs.Tree.{Tree}
use Rattle.opgen_design.specs.Value.{IsWidth}
use Rattle.opgen_num.specs.declared.format.Format.{Format}
use Rattle.opgen_net.specs.declared.cell.Class.TheVariants.{Wire}
use Rattle.opgen_net.specs.declared.net.Net.{Net}
use Rattle.opgen_net.specs.declared.node.Node.TheVariants.{Constant, Cells}
use Rattle.opgen_net.specs.Cells.{IsOfClass}
use Rattle.opgen_net.specs.Placed.{with_last, whole}
use Rattle.opgen_net.specs.Valid.{FitsNodes, FitsChoice, widths}
use Rattle.opgen_saturate.specs.Recipe.{with_sign, with_ends, least_word, greatest_word, counting}
use Rattle.opgen_num.specs.Formats.{IsWidthOf}
use Rattle.opgen_saturate.proofs.Ends.{word-wide}
use Rattle.opgen_saturate.proofs.Expressions.{bit-fits}
use Rattle.opgen_saturate.proofs.Limit.{sign-fits, choice-fits, at_one, at_two}
use Rattle.opgen_saturate.proofs.step.limit.Goals as goal

greatest-wide : (to : Format) → IsWidthOf to.signed to.width → (w : List Bool) → w ≡ greatest_word to → IsWidth (length w)
greatest-wide to some w e = subst (λ (v : List Bool). IsWidth (length v)) (sym e) (word-wide to (2 ^ counting to - 1) some)

pub constant-requires-clause-width : goal.constant-requires-clause-width
constant-requires-clause-width c =
    greatest-wide c.args.to c.requires.formats.to_width c.greatest_word.result c.greatest_word.ensures

pub constant-requires-2-clause-width : goal.constant-requires-2-clause-width
constant-requires-2-clause-width c =
    let to = c.args.to in
    subst (λ (v : List Bool). IsWidth (length v)) (sym c.least_word.ensures)
    (word-wide to (if to.signed then 2 ^ (to.width - 1) else 0) c.requires.formats.to_width)

pub constant-requires-3-clause-width : goal.constant-requires-3-clause-width
constant-requires-3-clause-width c =
    greatest-wide c.args.to c.requires.formats.to_width c.greatest_word-2.result c.greatest_word-2.ensures

pub cells-requires-clause-class : goal.cells-requires-clause-class
cells-requires-clause-class c =
    let net = c.args.net.now in
    subst (IsOfClass (widths net.nodes) Wire) (sym c.bit.ensures) refl

pub cells-requires-clause-fits : goal.cells-requires-clause-fits
cells-requires-clause-fits c =
    let net = c.args.net.now in
    let node = c.args.node in
    let format = c.args.format in
    subst (FitsNodes (widths net.nodes) 1) (sym c.bit.ensures)
    (bit-fits (widths net.nodes) node (format.width - 1) (sign-fits net node format c.args.to c.requires.net c.requires.formats))

pub choice-requires-clause-fits : goal.choice-requires-clause-fits
choice-requires-clause-fits c =
    let net = c.args.net.now in
    let node = c.args.node in
    let format = c.args.format in
    let to = c.args.to in
    let m = to.width in
    let n = length net.nodes in
    let signed = with_sign node format net in
    let one : c.cells.new.self ≡ signed =
    c.in_ok-sign.ensures.ok ∙ ap (λ (e : Tree). with_last net (Cells Wire 1 e)) c.bit.ensures in
    let two : c.constant-2.new.self ≡ with_last signed (Constant (least_word to)) =
    c.in_ok-least.ensures.ok
    ∙ ap (λ (w : List Bool). with_last c.cells.new.self (Constant w)) c.least_word.ensures
    ∙ ap (λ (o : Net). with_last o (Constant (least_word to))) one in
    let three : c.constant-3.new.self ≡ with_ends node format to net =
    c.in_ok-greatest.ensures.ok
    ∙ ap (λ (w : List Bool). with_last c.constant-2.new.self (Constant w)) c.greatest_word-2.ensures
    ∙ ap (λ (o : Net). with_last o (Constant (greatest_word to))) two in
    let least : c.in_ok-least.least ≡ n + 1 =
    c.in_ok-least.ensures.place
    ∙ ap (λ (o : Net). length o.nodes) one
    ∙ at_one net node format to c.requires.net c.requires.formats in
    let greatest : c.in_ok-greatest.greatest ≡ n + 2 =
    c.in_ok-greatest.ensures.place
    ∙ ap (λ (o : Net). length o.nodes) two
    ∙ at_two net node format to c.requires.net c.requires.formats in
    let first : c.whole.result ≡ whole m (n + 1) = c.whole.ensures ∙ ap (whole m) least in
    let second : c.whole-2.result ≡ whole m (n + 2) = c.whole-2.ensures ∙ ap (whole m) greatest in
    let fits = choice-fits net node format to c.requires.net c.requires.formats in
    subst (λ (s : Slice). FitsChoice (widths c.constant-3.new.self.nodes) c.in_ok-sign.sign c.whole.result s) (sym second)
    (subst (λ (s : Slice). FitsChoice (widths c.constant-3.new.self.nodes) c.in_ok-sign.sign s (whole m (n + 2))) (sym first)
    (subst (λ (k : ℕ). FitsChoice (widths c.constant-3.new.self.nodes) k (whole m (n + 1)) (whole m (n + 2))) (sym c.in_ok-sign.ensures.place)
    (subst (λ (o : Net). FitsChoice (widths o.nodes) n (whole m (n + 1)) (whole m (n + 2))) (sym three) fits)))
