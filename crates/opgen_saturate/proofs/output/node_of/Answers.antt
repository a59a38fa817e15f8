use Rattle.std.proofs.Common.{◌≡◌, length, sym, ap, ◌∙◌, subst, arith, rules}
use Rattle.std.specs.Prelude.{All, slice_index}
use Rattle.opgen_design.specs.Value.{IsWidth}
use Rattle.opgen_net.specs.Valid.{widths}
use Rattle.opgen_net.specs.WordRule.{IsThere, bits_from}
use Rattle.opgen_net.proofs.BitLists.{length-bits_from, bits_from-there}
use Rattle.opgen_net.proofs.FlowLaws.{lies_within, length-widths}
use Rattle.opgen_net.proofs.FlowWidths.{are_widths}
use Rattle.opgen_saturate.proofs.output.node_of.Goals as goal

pub push_bits-requires : goal.push_bits-requires
push_bits-requires c =
    let nodes = c.args.net.now.nodes in
    let from = c.args.from in
    let most : IsWidth (slice_index (widths nodes) from.node) =
    are_widths nodes c.requires.net.nodes from.node (omega (arith, lies_within (widths nodes) from c.requires.lies, length-widths nodes)) in
    omega (arith, c.requires.lies.0, c.requires.lies.1, c.requires.all, most.1)

pub word-requires-clause-width : goal.word-requires-clause-width
word-requires-clause-width c =
    let from = c.args.from in
    let width = c.args.width in
    let bits : c.as_slice.result.now ≡ bits_from from.node from.low width = search rules in
    let long : length c.as_slice.result.now ≡ width = ap length bits ∙ length-bits_from from.node from.low width in
    subst IsWidth (sym long) c.requires.width

pub word-requires-clause-there : goal.word-requires-clause-there
word-requires-clause-there c =
    let from = c.args.from in
    let width = c.args.width in
    let ws = widths c.args.net.now.nodes in
    let bits : c.as_slice.result.now ≡ bits_from from.node from.low width = search rules in
    subst (All (IsThere ws)) (sym bits)
    (bits_from-there ws from.node from.low width (omega (arith, c.requires.lies.0, c.requires.lies.1, c.requires.all)))
