-- Nets that have grown: nodes behind those of a net, the widths and words of the nodes before, and the bits that stand there.
use Rattle.std.proofs.Common.{◌≡◌, ℕ, ◌<◌, ◌≤◌, List, [], ◌∷◌, ◌++◌, length, length-append, take, drop, refl, sym, ap, ◌∙◌, subst, arith, append_assoc}
use Rattle.std.specs.Prelude.{All, slice_index, slice_index_or}
use Rattle.std.proofs.Math.Seq.{take-append_seam, take-length}
use Rattle.std.proofs.lemmas.List.{append-nil, take-append-drop}
use Rattle.opgen_net.specs.declared.net.Net.{Net}
use Rattle.opgen_net.specs.declared.node.Node.{Node}
use Rattle.opgen_net.specs.declared.word_bits.WordBit.{WordBit}
use Rattle.opgen_net.specs.declared.word_bits.WordBit.TheVariants.{Zero, One, Of}
use Rattle.opgen_net.specs.Delays.{delay_count, PassesAtMost}
use Rattle.opgen_net.specs.Flow.{KeepsFlow}
use Rattle.opgen_net.specs.Grown.{HasGrown, GrownNetsKeepNodes}
use Rattle.opgen_net.specs.Valid.{widths}
use Rattle.opgen_net.specs.WordRule.{IsThere}
use Rattle.opgen_net.proofs.Appending.{flow-append_before, width-append_before}
use Rattle.opgen_net.proofs.Delays.{delay_count-append, passes-count, passes-more}
use Rattle.opgen_net.proofs.FlowLaws.{index_within, length-widths}

pub flow-then : (a b c : List Node) → length a ≤ length b → KeepsFlow a b → KeepsFlow b c → KeepsFlow a c
flow-then a b c l f g inputs n t h = g inputs n t (omega (arith, h, l)) ∙ f inputs n t h

-- nodes behind those of a list
pub flow-more : (nodes more : List Node) → KeepsFlow nodes (nodes ++ more)
flow-more nodes [] = subst (KeepsFlow nodes) (sym (append-nil nodes)) (λ inputs n t h. refl)
flow-more nodes (n ∷ more) =
    subst (KeepsFlow nodes) (append_assoc nodes (n ∷ []) more)
    (flow-then nodes (nodes ++ n ∷ []) ((nodes ++ n ∷ []) ++ more) (omega (arith, length-append nodes (n ∷ [])))
    (flow-append_before nodes n) (flow-more (nodes ++ n ∷ []) more))

abbrev KeepsWidths : (old new : List Node) → Type 0
KeepsWidths old new = (n : ℕ) → n < length old → slice_index (widths new) n ≡ slice_index (widths old) n

widths-more : (nodes more : List Node) → KeepsWidths nodes (nodes ++ more)
widths-more nodes [] = subst (KeepsWidths nodes) (sym (append-nil nodes)) (λ n h. refl)
widths-more nodes (m ∷ more) =
    subst (KeepsWidths nodes) (append_assoc nodes (m ∷ []) more)
    (λ n h. widths-more (nodes ++ m ∷ []) more n (omega (arith, h, length-append nodes (m ∷ []))) ∙ width-append_before nodes m n h)

-- the nodes of a net that has grown: those of before, and further ones
module _ (old new : Net) (grown : HasGrown old new) where
  pub grown-nodes : old.nodes ++ drop (length old.nodes) new.nodes ≡ new.nodes
  grown-nodes = ap (λ ns. ns ++ drop (length old.nodes) new.nodes) (sym grown.nodes) ∙ take-append-drop (length old.nodes) new.nodes

  pub grown-count : length old.nodes ≤ length new.nodes
  grown-count = omega (arith, ap length grown-nodes, length-append old.nodes (drop (length old.nodes) new.nodes))

  pub grown-flow : KeepsFlow old.nodes new.nodes
  grown-flow = subst (KeepsFlow old.nodes) grown-nodes (flow-more old.nodes (drop (length old.nodes) new.nodes))

  -- what keeps the words of the new net keeps those of the old one
  pub grown-keeps : (made : List Node) → KeepsFlow new.nodes made → KeepsFlow old.nodes made
  grown-keeps made keeps = flow-then old.nodes new.nodes made grown-count grown-flow keeps

  pub grown-width : (n : ℕ) → n < length old.nodes → slice_index (widths new.nodes) n ≡ slice_index (widths old.nodes) n
  grown-width = subst (KeepsWidths old.nodes) grown-nodes (widths-more old.nodes (drop (length old.nodes) new.nodes))

  -- a bit of a node still stands there
  pub grown-there : (b : WordBit) → IsThere (widths old.nodes) b → IsThere (widths new.nodes) b
  grown-there Zero h = tt
  grown-there One h = tt
  grown-there (Of node index) h =
      omega (arith, h, grown-width node (omega (arith, index_within (widths old.nodes) node index h, length-widths old.nodes)))

  pub grown-all_there : (bs : List WordBit) → All (IsThere (widths old.nodes)) bs → All (IsThere (widths new.nodes)) bs
  grown-all_there bs h = λ k d l. grown-there (slice_index_or bs k d) (h k d l)

-- no way through a net that has grown passes more delays than before, nor more than the net before had
module _ (old new : Net) (grown : HasGrown old new) (most : ℕ) where
  pub grown-passes : PassesAtMost most old.nodes → PassesAtMost most new.nodes
  grown-passes h =
      let more = drop (length old.nodes) new.nodes in
      let same : old.nodes ++ more ≡ new.nodes = grown-nodes old new grown in
      let none : delay_count more ≡ 0 = omega (arith, grown.delays, ap delay_count same, delay_count-append old.nodes more) in
      subst (PassesAtMost most) same (passes-more most old.nodes more none h)

  pub grown-few : delay_count old.nodes ≤ most → PassesAtMost most new.nodes
  grown-few few = passes-count most new.nodes (omega (arith, few, grown.delays))

pub grown_nets_keep : GrownNetsKeepNodes
grown_nets_keep old new grown = record { widths = grown-width old new grown; flow = grown-flow old new grown }

pub grown-more : (net : Net) (more : List Node) → delay_count more ≡ 0 → HasGrown net (record net { nodes = net.nodes ++ more })
grown-more net more none = record {
  inputs = refl;
  outputs = refl;
  nodes = take-append_seam net.nodes more;
  delays = omega (arith, none, delay_count-append net.nodes more);
}

pub grown-same : (net : Net) → HasGrown net net
grown-same net = record { inputs = refl; outputs = refl; nodes = take-length net.nodes; delays = refl }

pub grown-then : (a b c : Net) → HasGrown a b → HasGrown b c → HasGrown a c
grown-then a b c p q = record {
  inputs = q.inputs ∙ p.inputs;
  outputs = q.outputs ∙ p.outputs;
  nodes =
      let more = drop (length a.nodes) b.nodes in
      let rest = drop (length b.nodes) c.nodes in
      let all : c.nodes ≡ a.nodes ++ (more ++ rest) =
      sym (grown-nodes b c q) ∙ ap (λ ns. ns ++ rest) (sym (grown-nodes a b p)) ∙ append_assoc a.nodes more rest in
      ap (take (length a.nodes)) all ∙ take-append_seam a.nodes (more ++ rest);
  delays = q.delays ∙ p.delays;
}
