use Rattle.std.proofs.Common.{◌≡◌, ℕ, List, length, sym, ap, ◌∙◌, subst, rules}
use Rattle.std.specs.Prelude.{All}
use Rattle.opgen_design.specs.Value.{IsWidth}
use Rattle.opgen_num.specs.declared.mode.Overflow.TheVariants.{Wrap}
use Rattle.opgen_net.specs.declared.net.Net.{Net}
use Rattle.opgen_net.specs.declared.word_bits.WordBit.{WordBit}
use Rattle.opgen_net.specs.Flow.{KeepsFlow}
use Rattle.opgen_net.specs.Placed.{with_bits}
use Rattle.opgen_net.specs.Valid.{widths}
use Rattle.opgen_net.specs.WordRule.{IsThere}
use Rattle.opgen_net.proofs.Grown.{grown-flow}
use Rattle.opgen_saturate.specs.Converts.{Converts}
use Rattle.opgen_saturate.specs.Recipe.{resized, with_wrapped}
use Rattle.opgen_saturate.proofs.Lowest.{wide, there, wrapped}
use Rattle.opgen_saturate.proofs.step.wrap.Goals as goal

pub word-requires-clause-width : goal.word-requires-clause-width
word-requires-clause-width c =
    let net = c.args.net.now in
    let bits : c.as_slice.result.now ≡ resized c.args.node c.args.format c.args.to.width = search rules in
    subst (λ (bs : List WordBit). IsWidth (length bs)) (sym bits)
    (wide net c.args.node c.args.format c.args.to c.requires.net c.requires.formats)

pub word-requires-clause-there : goal.word-requires-clause-there
word-requires-clause-there c =
    let net = c.args.net.now in
    let bits : c.as_slice.result.now ≡ resized c.args.node c.args.format c.args.to.width = search rules in
    subst (All (IsThere (widths net.nodes))) (sym bits)
    (there net c.args.node c.args.format c.args.to c.requires.net c.requires.formats)

pub returns-clause-ok : goal.returns-clause-ok
returns-clause-ok c =
    let net = c.args.net.now in
    let bits : c.as_slice.result.now ≡ resized c.args.node c.args.format c.args.to.width = search rules in
    c.in_ok-place.ensures.ok ∙ ap (λ (bs : List WordBit). (with_bits net bs).net) bits

pub returns-clause-place : goal.returns-clause-place
returns-clause-place c =
    let net = c.args.net.now in
    let bits : c.as_slice.result.now ≡ resized c.args.node c.args.format c.args.to.width = search rules in
    c.in_ok-place.ensures.place ∙ ap (λ (bs : List WordBit). (with_bits net bs).place) bits

pub returns-clause-flow : goal.returns-clause-flow
returns-clause-flow c =
    let net = c.args.net.now in
    let made = with_wrapped c.args.node c.args.format c.args.to net in
    let all = wrapped net c.args.node c.args.format c.args.to c.requires.net c.requires.formats in
    subst (λ (n : Net). KeepsFlow net.nodes n.nodes) (sym (returns-clause-ok c)) (grown-flow net made.net all.later.grown)

pub returns-clause-wraps : goal.returns-clause-wraps
returns-clause-wraps c =
    let net = c.args.net.now in
    let made = with_wrapped c.args.node c.args.format c.args.to net in
    let all = wrapped net c.args.node c.args.format c.args.to c.requires.net c.requires.formats in
    subst (λ (n : Net). Converts Wrap net c.args.node c.args.format c.args.to n c.in_ok-place.place) (sym (returns-clause-ok c))
    (subst (λ (p : ℕ). Converts Wrap net c.args.node c.args.format c.args.to made.net p) (sym (returns-clause-place c)) all.converts)
