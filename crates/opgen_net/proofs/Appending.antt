-- A node more: the widths, the flow and the validity of a net with it, by those of the net before.
use Rattle.std.proofs.Common.{◌≡◌, ℕ, ◌+◌, ◌<◌, List, [], ◌∷◌, ◌++◌, length, refl, sym, ap, ◌∙◌, subst, arith}
use Rattle.std.specs.Prelude.{ℤ, All, slice_index, slice_index_or}
use Rattle.std.proofs.Math.ListN.{get_or-append}
use Rattle.std.proofs.Math.Seq.{get_or-append_seam}
use Rattle.std.proofs.lemmas.List.{append-nil, length-map, map-append}
use Rattle.std.proofs.lemmas.List.Elements.{All-append, All-cons, All-nil}
use Rattle.opgen_net.specs.declared.node.Node.{Node}
use Rattle.opgen_net.specs.declared.node.Node.TheVariants.{Input, Constant, Cells, Choice, Table, Delay}
use Rattle.opgen_net.specs.declared.net.Net.{Net}
use Rattle.opgen_net.specs.declared.net.Output.{Output}
use Rattle.opgen_net.specs.Flow.{Stream, Inputs, stream_at, stream_of, streams_on, flow, KeepsFlow}
use Rattle.opgen_net.specs.Valid.{node_width, widths_on, widths, LiesWithin, MayStand, AllMayStand, input_nodes, numbered, input_widths, IsValid}
use Rattle.opgen_design.specs.Value.{IsWidth}
use Rattle.opgen_net.proofs.FlowLaws.{length-streams_on, length-widths}
use Rattle.opgen_net.proofs.Standing.{lies-kept}

-- streams

pub streams_on-append : (inputs : Inputs) (ss : List Stream) (ns : List Node) (n : Node)
    → streams_on inputs ss (ns ++ n ∷ []) ≡ streams_on inputs ss ns ++ stream_of inputs (streams_on inputs ss ns) n ∷ []
streams_on-append inputs ss [] n = refl
streams_on-append inputs ss (m ∷ ns) n = streams_on-append inputs (ss ++ stream_of inputs ss m ∷ []) ns n

pub stream_at-append_before : (ss : List Stream) (s : Stream) (k : ℕ) (t : ℤ) → k < length ss → stream_at (ss ++ s ∷ []) k t
    ≡ stream_at ss k t
stream_at-append_before ss s k t h = ap (λ (r : Stream). r t) (get_or-append ss (s ∷ []) (λ u. []) k h)

pub stream_at-append_last : (ss : List Stream) (s : Stream) (t : ℤ) → stream_at (ss ++ s ∷ []) (length ss) t ≡ s t
stream_at-append_last ss s t = ap (λ (r : Stream). r t) (get_or-append_seam ss s [] (λ u. []))

-- the nodes before have the words that they had
pub flow-append_before : (nodes : List Node) (n : Node) → KeepsFlow nodes (nodes ++ n ∷ [])
flow-append_before nodes n inputs k t h =
    let ss = streams_on inputs [] nodes in
    ap (λ rs. stream_at rs k t) (streams_on-append inputs [] nodes n)
    ∙ stream_at-append_before ss (stream_of inputs ss n) k t (omega (arith, h, length-streams_on inputs [] nodes))

-- the node has the stream that its kind says over the streams before
pub flow-append_last : (nodes : List Node) (n : Node) (inputs : Inputs) (t : ℤ)
    → flow (nodes ++ n ∷ []) inputs (length nodes) t ≡ stream_of inputs (streams_on inputs [] nodes) n t
flow-append_last nodes n inputs t =
    let ss = streams_on inputs [] nodes in
    let same : length nodes ≡ length ss = omega (arith, length-streams_on inputs [] nodes) in
    ap (λ rs. stream_at rs (length nodes) t) (streams_on-append inputs [] nodes n)
    ∙ ap (λ k. stream_at (ss ++ stream_of inputs ss n ∷ []) k t) same
    ∙ stream_at-append_last ss (stream_of inputs ss n) t

-- widths

pub widths_on-append : (ws : List ℕ) (ns : List Node) (n : Node) → widths_on ws (ns ++ n ∷ [])
    ≡ widths_on ws ns ++ node_width (widths_on ws ns) n ∷ []
widths_on-append ws [] n = refl
widths_on-append ws (m ∷ ns) n = widths_on-append (ws ++ node_width ws m ∷ []) ns n

pub widths-append : (ns : List Node) (n : Node) → widths (ns ++ n ∷ []) ≡ widths ns ++ node_width (widths ns) n ∷ []
widths-append ns n = widths_on-append [] ns n

-- the width of a node before, and that of the node itself
pub width-append_before : (ns : List Node) (n : Node) (k : ℕ) → k < length ns → slice_index (widths (ns ++ n ∷ [])) k
    ≡ slice_index (widths ns) k
width-append_before ns n k h =
    ap (λ ws. slice_index ws k) (widths-append ns n)
    ∙ get_or-append (widths ns) (node_width (widths ns) n ∷ []) 0 k (omega (arith, h, length-widths ns))

pub width-append_last : (ns : List Node) (n : Node) → slice_index (widths (ns ++ n ∷ [])) (length ns) ≡ node_width (widths ns) n
width-append_last ns n =
    ap (λ ws. slice_index ws (length ns)) (widths-append ns n)
    ∙ ap (λ k. slice_index (widths ns ++ node_width (widths ns) n ∷ []) k) (sym (length-widths ns))
    ∙ get_or-append_seam (widths ns) (node_width (widths ns) n) [] 0

-- valid nets

pub may_stand-append : (ws : List ℕ) (ns : List Node) (n : Node) → AllMayStand ws ns → MayStand (widths_on ws ns) n
    → AllMayStand ws (ns ++ n ∷ [])
may_stand-append ws [] n all h = (h, tt)
may_stand-append ws (m ∷ ns) n all h = (all.0, may_stand-append (ws ++ node_width ws m ∷ []) ns n all.1 h)

pub input_nodes-append : (ns : List Node) (n : Node) → input_nodes (ns ++ n ∷ []) ≡ input_nodes ns ++ input_nodes (n ∷ [])
input_nodes-append [] n = refl
input_nodes-append (Input port w ∷ ns) n = ap (λ r. (port, w) ∷ r) (input_nodes-append ns n)
input_nodes-append (Constant w ∷ ns) n = input_nodes-append ns n
input_nodes-append (Cells class w e ∷ ns) n = input_nodes-append ns n
input_nodes-append (Choice on one other ∷ ns) n = input_nodes-append ns n
input_nodes-append (Table address rows ∷ ns) n = input_nodes-append ns n
input_nodes-append (Delay of ∷ ns) n = input_nodes-append ns n

pub numbered-append : (k : ℕ) (ws : List ℕ) (w : ℕ) → numbered k (ws ++ w ∷ []) ≡ numbered k ws ++ (k + length ws, w) ∷ []
numbered-append k [] w = let e : k ≡ k + 0 = omega arith in ap (λ i. (i, w) ∷ []) e
numbered-append k (v ∷ ws) w =
    let e : (k + 1) + length ws ≡ k + length (v ∷ ws) = omega arith in
    ap (λ r. (k, v) ∷ r) (numbered-append (k + 1) ws w ∙ ap (λ i. numbered (k + 1) ws ++ (i, w) ∷ []) e)

outputs_lie : (nodes : List Node) (n : Node) (os : List Output) → All (λ o. LiesWithin (widths nodes) o.from) os
    → All (λ o. LiesWithin (widths (nodes ++ n ∷ [])) o.from) os
outputs_lie nodes n os h =
    subst (λ ws. All (λ o. LiesWithin ws o.from) os) (sym (widths-append nodes n))
    (λ k d l. lies-kept (widths nodes) (node_width (widths nodes) n ∷ []) (slice_index_or os k d).from (h k d l))

-- a node that is no input
pub valid-append : (net : Net) (n : Node) → IsValid net → MayStand (widths net.nodes) n → input_nodes (n ∷ []) ≡ []
    → IsValid (record net { nodes = net.nodes ++ n ∷ [] })
valid-append net n valid stands none = record {
  nodes = may_stand-append [] net.nodes n valid.nodes stands;
  inputs = input_nodes-append net.nodes n ∙ ap (λ r. input_nodes net.nodes ++ r) none ∙ append-nil (input_nodes net.nodes) ∙ valid.inputs;
  outputs = outputs_lie net.nodes n net.outputs valid.outputs;
}

-- an input, with its entry
pub valid-input : (net : Net) (name : List ℕ) (w : ℕ) → IsValid net → IsWidth w
    → IsValid (record net { inputs = net.inputs ++ (name, w) ∷ []; nodes = net.nodes ++ Input (length net.inputs) w ∷ [] })
valid-input net name w valid wide =
    let n : Node = Input (length net.inputs) w in
    let ws = input_widths net in
    let e : 0 + length ws ≡ length net.inputs = omega (arith, length-map net.inputs (λ (i : List ℕ × ℕ). i.1)) in
    record {
      nodes = may_stand-append [] net.nodes n valid.nodes wide;
      inputs = input_nodes-append net.nodes n
          ∙ ap (λ r. r ++ (length net.inputs, w) ∷ []) valid.inputs
          ∙ ap (λ k. numbered 0 ws ++ (k, w) ∷ []) (sym e)
          ∙ sym (numbered-append 0 ws w)
          ∙ ap (numbered 0) (sym (map-append (λ (i : List ℕ × ℕ). i.1) net.inputs ((name, w) ∷ [])));
      outputs = outputs_lie net.nodes n net.outputs valid.outputs;
    }

pub valid-output : (net : Net) (o : Output) → IsValid net → LiesWithin (widths net.nodes) o.from
    → IsValid (record net { outputs = net.outputs ++ o ∷ [] })
valid-output net o valid lies = record {
  nodes = valid.nodes;
  inputs = valid.inputs;
  outputs =
      let P = λ (p : Output). LiesWithin (widths net.nodes) p.from in
      All-append P net.outputs (o ∷ []) valid.outputs (All-cons P o [] lies (All-nil P));
}
