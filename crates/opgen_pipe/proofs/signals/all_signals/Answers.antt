use Rattle.std.proofs.Common.{◌≡◌, ◌<◌, ℕ, Bool, List, [], ◌∷◌, ◌++◌, length, map, get_or, ap, ◌∙◌, arith}
use Rattle.std.specs.List.{range_with_len}
use Rattle.std.proofs.lemmas.Option.{slice_get-get_or, get_or_from_slice_get}
use Rattle.opgen_design.specs.Value.{word_at}
use Rattle.opgen_net.specs.declared.net.Net.{Net}
use Rattle.opgen_net.specs.declared.node.Node.TheVariants.{Delay}
use Rattle.opgen_pipe.specs.Pipelined.{own_signal, copy_signal, node_signals, zero_word}
use Rattle.opgen_pipe.specs.Standings.{standing_at}
use Rattle.opgen_pipe.specs.Zeros.{zero_words}
use Rattle.opgen_pipe.proofs.Lists.{length-each, get-each}
use Rattle.opgen_pipe.proofs.Steps.{all-more}
use Rattle.opgen_pipe.proofs.Still.{read-word}
use Rattle.opgen_pipe.proofs.signals.all_signals.Goals as goal

count : (net : Net) (zeros : List (List Bool)) → zeros ≡ zero_words net → length zeros ≡ length net.nodes
count net zeros e = ap length e ∙ length-each (λ i n. zero_word net i) 0 net.nodes

zero_is : (net : Net) (zeros : List (List Bool)) (i : ℕ) (x : List Bool) → zeros ≡ zero_words net → i < length net.nodes → x
    ≡ get_or zeros i x → x ≡ zero_word net i
zero_is net zeros i x e l g =
    read-word zeros i x (omega (arith, l, count net zeros e)) g
    ∙ ap (λ zs. word_at zs i) e
    ∙ get_or_from_slice_get (zero_words net) i (zero_word net i) []
    (get-each (λ i n. zero_word net i) net.nodes i (get_or net.nodes i (Delay 0)) (slice_get-get_or net.nodes i (Delay 0) l))

pub bounds-zeros-number : goal.bounds-zeros-number
bounds-zeros-number c = omega (
  arith,
  count c.args.net.now c.args.zeros.now c.requires.zeros,
  c.nodes-test.true,
  ap length c.as_slice-nodes.ensures,
)

pub nodes-preserved : goal.nodes-preserved
nodes-preserved c =
    let net = c.args.net.now in
    let ns = c.as_slice-nodes.result.now in
    let i = c.nodes.number in
    let n = c.index-nodes-number.result in
    let o = standing_at c.args.standings.now i in
    let is = zero_is net c.args.zeros.now i c.index-zeros-number.result c.requires.zeros
    (omega (arith, c.nodes-test.true, ap length c.as_slice-nodes.ensures)) c.index-zeros-number.is in
    all-more (node_signals net c.args.standings.now) ns i n c.nodes.signals c.push_node.new.signals c.nodes-test.true
    c.index-nodes-number.is
    (c.in_ok-push_node.ensures ∙ ap (λ z. c.nodes.signals ++ (own_signal z o i n ∷ map (copy_signal z o i) (range_with_len 1 o.copies))) is)
    ∙ c.nodes.invariant
