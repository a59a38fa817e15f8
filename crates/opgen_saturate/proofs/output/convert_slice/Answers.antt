use Rattle.std.proofs.Common.{ℕ, sym, subst}
use Rattle.opgen_net.specs.declared.net.Net.{Net}
use Rattle.opgen_net.specs.Placed.{with_bits}
use Rattle.opgen_net.specs.WordRule.{bits_from}
use Rattle.opgen_saturate.specs.Converts.{AreFormats}
use Rattle.opgen_saturate.proofs.Slices.{first-are}
use Rattle.opgen_saturate.proofs.output.convert_slice.Goals as goal

pub saturate-requires-clause-formats : goal.saturate-requires-clause-formats
saturate-requires-clause-formats c =
    let net = c.args.net.now in
    let from = c.args.from in
    let format = c.args.format in
    let to = c.args.to in
    let first = with_bits net (bits_from from.node from.low format.width) in
    subst (λ (n : Net). AreFormats n c.in_ok-node.node format to) (sym c.in_ok-node.ensures.ok)
    (subst (λ (p : ℕ). AreFormats first.net p format to) (sym c.in_ok-node.ensures.place)
    (first-are c.args.overflow net from format to c.requires.net c.requires.lies c.requires.all c.requires.from c.requires.to))

pub wrap-requires-clause-formats : goal.wrap-requires-clause-formats
wrap-requires-clause-formats c =
    let net = c.args.net.now in
    let from = c.args.from in
    let format = c.args.format in
    let to = c.args.to in
    let first = with_bits net (bits_from from.node from.low format.width) in
    subst (λ (n : Net). AreFormats n c.in_ok-node.node format to) (sym c.in_ok-node.ensures.ok)
    (subst (λ (p : ℕ). AreFormats first.net p format to) (sym c.in_ok-node.ensures.place)
    (first-are c.args.overflow net from format to c.requires.net c.requires.lies c.requires.all c.requires.from c.requires.to))
