use Rattle.std.proofs.Common.{◌≡◌, ℕ, sym, ap, ◌∙◌, subst}
use Rattle.opgen_design.specs.declared.expr.Slice.{Slice}
use Rattle.opgen_net.specs.declared.net.Net.{Net}
use Rattle.opgen_net.specs.Placed.{whole}
use Rattle.opgen_net.specs.Valid.{FitsChoice, widths}
use Rattle.opgen_saturate.specs.Recipe.{last_place, with_test, with_limit, with_wrapped}
use Rattle.opgen_saturate.specs.Converts.{AreFormats}
use Rattle.opgen_saturate.proofs.Whole.{tested-are, limit-are, last-fits}
use Rattle.opgen_saturate.proofs.step.choose.Goals as goal

pub limit-requires-clause-formats : goal.limit-requires-clause-formats
limit-requires-clause-formats c =
    let net = c.args.net.now in
    let node = c.args.node in
    let format = c.args.format in
    let to = c.args.to in
    let one : c.test.new.net ≡ with_test node format to net = c.in_ok-test.ensures.ok in
    subst (λ (n : Net). AreFormats n node format to) (sym one)
    (tested-are net node format to c.requires.net c.requires.formats c.requires.narrow)

pub wrap-requires-clause-formats : goal.wrap-requires-clause-formats
wrap-requires-clause-formats c =
    let net = c.args.net.now in
    let node = c.args.node in
    let format = c.args.format in
    let to = c.args.to in
    let before = with_limit node format to (with_test node format to net) in
    let one : c.test.new.net ≡ with_test node format to net = c.in_ok-test.ensures.ok in
    let two : c.limit.new.net ≡ before.net =
    c.in_ok-limit.ensures.ok ∙ ap (λ (n : Net). (with_limit node format to n).net) one in
    subst (λ (n : Net). AreFormats n node format to) (sym two)
    (limit-are net node format to c.requires.net c.requires.formats c.requires.narrow)

pub choice-requires-clause-fits : goal.choice-requires-clause-fits
choice-requires-clause-fits c =
    let net = c.args.net.now in
    let node = c.args.node in
    let format = c.args.format in
    let to = c.args.to in
    let m = to.width in
    let q = last_place (with_test node format to net) in
    let before = with_limit node format to (with_test node format to net) in
    let low = with_wrapped node format to before.net in
    let one : c.test.new.net ≡ with_test node format to net = c.in_ok-test.ensures.ok in
    let two : c.limit.new.net ≡ before.net =
    c.in_ok-limit.ensures.ok ∙ ap (λ (o : Net). (with_limit node format to o).net) one in
    let limit : c.in_ok-limit.limit ≡ before.place =
    c.in_ok-limit.ensures.place ∙ ap (λ (o : Net). (with_limit node format to o).place) one in
    let three : c.wrap.new.net ≡ low.net = c.in_ok-low.ensures.ok ∙ ap (λ (o : Net). (with_wrapped node format to o).net) two in
    let lowest : c.in_ok-low.low ≡ low.place = c.in_ok-low.ensures.place ∙ ap (λ (o : Net). (with_wrapped node format to o).place) two in
    let first : c.whole.result ≡ whole m before.place = c.whole.ensures ∙ ap (whole m) limit in
    let second : c.whole-2.result ≡ whole m low.place = c.whole-2.ensures ∙ ap (whole m) lowest in
    let fits = last-fits net node format to c.requires.net c.requires.formats c.requires.narrow in
    subst (λ (s : Slice). FitsChoice (widths c.wrap.new.net.nodes) c.in_ok-test.test c.whole.result s) (sym second)
    (subst (λ (s : Slice). FitsChoice (widths c.wrap.new.net.nodes) c.in_ok-test.test s (whole m low.place)) (sym first)
    (subst (λ (k : ℕ). FitsChoice (widths c.wrap.new.net.nodes) k (whole m before.place) (whole m low.place)) (sym c.in_ok-test.ensures.place)
    (subst (λ (o : Net). FitsChoice (widths o.nodes) q (whole m before.place) (whole m low.place)) (sym three) fits)))
