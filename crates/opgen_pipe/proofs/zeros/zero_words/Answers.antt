use Rattle.std.proofs.Common.{length, refl, ap, ◌∙◌, sym, arith}
use Rattle.std.specs.Prelude.{slice_get}
use Rattle.std.proofs.lemmas.Option.{slice_get_read}
use Rattle.opgen_pipe.specs.Zeros.{still_word}
use Rattle.opgen_pipe.proofs.Still.{zeros-narrow, zeros-stand, zeros-more, zeros-all}
use Rattle.opgen_pipe.proofs.zeros.zero_words.Goals as goal

pub still_word-word-requires-clause-narrow : goal.still_word-word-requires-clause-narrow
still_word-word-requires-clause-narrow c = zeros-narrow c.args.net.now c.requires c.nodes.node-index c.deref.result.now
    (c.deref.ensures.value ∙ c.nodes.invariant)

pub still_word-word-requires-clause-stands : goal.still_word-word-requires-clause-stands
still_word-word-requires-clause-stands c =
    let nodes = c.as_slice-nodes.result.now in
    let n = c.node-item.result in
    let i = c.nodes.node-index in
    let h = ap (λ ns. slice_get ns i) (sym c.as_slice-nodes.ensures)
    ∙ slice_get_read nodes (length nodes) i n refl c.nodes-test.true c.node-item.is in
    zeros-stand c.args.net.now c.requires i n h c.deref.result.now (c.deref.ensures.value ∙ c.nodes.invariant)

pub nodes-preserved : goal.nodes-preserved
nodes-preserved c =
    let nodes = c.as_slice-nodes.result.now in
    let n = c.node-item.result in
    let i = c.nodes.node-index in
    let h = ap (λ ns. slice_get ns i) (sym c.as_slice-nodes.ensures)
    ∙ slice_get_read nodes (length nodes) i n refl c.nodes-test.true c.node-item.is in
    c.in_ok-push.ensures.items
    ∙ zeros-more c.args.net.now c.requires i n h c.nodes.words.items c.still_word-word.result c.nodes.invariant
    (c.still_word-word.ensures ∙ ap (λ ws. still_word ws n) c.deref.ensures.value)

pub returns : goal.returns
returns c = c.nodes.invariant ∙ zeros-all c.args.net.now c.requires c.nodes.node-index (omega (
  arith,
  c.nodes-test.false,
  ap length c.as_slice-nodes.ensures,
))
