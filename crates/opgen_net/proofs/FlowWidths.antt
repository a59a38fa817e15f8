-- The widths of a net's nodes are widths of signals, and each node's word has its node's width.
use Rattle.std.proofs.Common.{inl, inr, ◌≡◌, ℕ, suc, ◌^◌, ◌<◌, List, [], ◌∷◌, ◌++◌, length, length-append, Some, refl, sym, ap, ◌∙◌, subst, arith}
use Rattle.std.specs.Prelude.{ℤ, slice_get, slice_index, All}
use Rattle.std.proofs.lemmas.Bool.{cases_order}
use Rattle.std.proofs.lemmas.List.{get_or_append_left, get_or_at, get_or_past}
use Rattle.std.proofs.lemmas.Option.{get_or_from_slice_get}
use Rattle.opgen_num.specs.Words.{nat}
use Rattle.opgen_num.proofs.Words.{nat-below}
use Rattle.opgen_design.specs.declared.expr.Slice.{Slice}
use Rattle.opgen_net.specs.declared.node.Node.{Node}
use Rattle.opgen_net.specs.declared.node.Node.TheVariants.{Input, Constant, Cells, Choice, Table, Delay}
use Rattle.opgen_net.specs.declared.net.Net.{Net}
use Rattle.opgen_design.specs.Value.{IsWidth}
use Rattle.opgen_net.specs.Flow.{Stream, before, Inputs, input_at, stream_at, part_at, stream_of, streams_on, flow}
use Rattle.opgen_design.specs.Run.{AreWords}
use Rattle.opgen_net.specs.Valid.{slice_width, node_width, widths_on, widths, LiesWithin, MayStand, AllMayStand, input_widths, IsValid}
use Rattle.opgen_design.proofs.WidthLaws.{length-cut, value-width, width-is_width}
use Rattle.opgen_design.proofs.ValueLaws.{length-chosen}
use Rattle.opgen_net.proofs.FlowLaws.{lies_within, length-widths}
use Rattle.opgen_net.proofs.InputLaws.{input-width, input_at-width}

abbrev pub AreWidths : List ℕ → Type 0
AreWidths ws = (i : ℕ) → i < length ws → IsWidth (slice_index ws i)

pub slice-is_width : (ws : List ℕ) → AreWidths ws → (s : Slice) → LiesWithin ws s → IsWidth (slice_width s)
slice-is_width ws a s h =
    let b = a s.node (lies_within ws s h) in
    (omega (arith, h.0, h.1), omega (arith, h.0, h.1, b.1))

-- a node that may stand has a width
node-is_width : (ws : List ℕ) → AreWidths ws → (n : Node) → MayStand ws n → IsWidth (node_width ws n)
node-is_width ws a (Input port w) h = h
node-is_width ws a (Constant w) h = h
node-is_width ws a (Cells class w e) h = width-is_width ws [] e w h.1.has_width
node-is_width ws a (Choice on one other) h = slice-is_width ws a one h.one_lies
node-is_width ws a (Table address rows) h = h.row_width
node-is_width ws a (Delay of) h = a of h

are_widths_on : (ws : List ℕ) (ns : List Node) → AreWidths ws → AllMayStand ws ns → AreWidths (widths_on ws ns)
are_widths_on ws [] a h = a
are_widths_on ws (n ∷ ns) a h =
    let w = node_width ws n in
    are_widths_on (ws ++ w ∷ []) ns (
    λ i l. elim (cases_order i (length ws)) [
      | inl e ↦ subst IsWidth (sym (ap (slice_index (ws ++ w ∷ [])) e ∙ get_or_at ws w [] 0 (length ws) refl)) (node-is_width ws a n h.0)
      | inr o ↦ elim o [
        | inl b ↦ subst IsWidth (sym (get_or_append_left ws (w ∷ []) 0 i b)) (a i b)
        | inr b ↦ absurd (omega (arith, l, b, length-append ws (w ∷ [])))
      ]
    ]
    ) h.1

pub are_widths : (nodes : List Node) → AllMayStand [] nodes → (i : ℕ) → i < length nodes → IsWidth (slice_index (widths nodes) i)
are_widths nodes h i l = are_widths_on [] nodes (λ k m. absurd (omega (arith, m))) h i (omega (arith, l, length-widths nodes))

-- streams whose words have these widths at all times
record Have (ss : List Stream) (ws : List ℕ) : Type 0 where
  count : length ss ≡ length ws
  words : (i : ℕ) (t : ℤ) → length (stream_at ss i t) ≡ slice_index ws i

module _ (inputs : Inputs) where
  part-width : (ss : List Stream) (ws : List ℕ) (s : Slice) (t : ℤ) → Have ss ws → LiesWithin ws s → length (part_at ss s t) ≡ slice_width s
  part-width ss ws s t h l = length-cut s.high s.low (stream_at ss s.node t) l.0 (omega (arith, l.1, h.words s.node t))

  stream-width : (ss : List Stream) (ws : List ℕ) (n : Node) (t : ℤ) → Have ss ws → MayStand ws n
      → ((port w : ℕ) → n ≡ Input port w → length (input_at inputs port w t) ≡ w) → length (stream_of inputs ss n t) ≡ node_width ws n
  stream-width ss ws (Input port w) t h m f = f port w refl
  stream-width ss ws (Constant w) t h m f = refl
  stream-width ss ws (Cells class w e) t h m f =
      value-width ws [] (record { names = λ n. stream_at ss n t; ports = λ n. [] })
      (λ n v r. h.words n t ∙ get_or_from_slice_get ws n v 0 r) (λ n v r. absurd (cc)) e w m.1.has_width
  stream-width ss ws (Choice on one other) t h m f =
      length-chosen (stream_at ss on t) (part_at ss one t) (part_at ss other t) (slice_width one)
      (part-width ss ws one t h m.one_lies) (part-width ss ws other t h m.other_lies ∙ sym m.same_width)
  stream-width ss ws (Table address rows) t h m f =
      let w = stream_at ss address t in
      let below : nat w < length rows = omega (arith, nat-below w, ap (λ n. 2 ^ n) (h.words address t), m.row_for_each) in
      m.same_width (nat w) [] below
  stream-width ss ws (Delay of) t h m f = h.words of (before t)

  have-on : (ss : List Stream) (ws : List ℕ) (ns : List Node) → Have ss ws → AllMayStand ws ns
      → ((j port w : ℕ) (t : ℤ) → slice_get ns j ≡ Some (Input port w) → length (input_at inputs port w t) ≡ w)
      → Have (streams_on inputs ss ns) (widths_on ws ns)
  have-on ss ws [] h a f = h
  have-on ss ws (n ∷ ns) h a f =
      let s : Stream = stream_of inputs ss n in
      let w = node_width ws n in
      let own : (t : ℤ) → length (s t) ≡ w = λ t. stream-width ss ws n t h a.0 (λ port v e. f 0 port v t (ap Some e)) in
      let next : Have (ss ++ s ∷ []) (ws ++ w ∷ []) = record {
        count = omega (arith, h.count, length-append ss (s ∷ []), length-append ws (w ∷ []));
        words = λ i t. elim (cases_order i (length ss)) [
          | inl e ↦ ap (λ k. length (stream_at (ss ++ s ∷ []) k t)) e
              ∙ ap (λ x. length (x t)) (get_or_at ss s [] (λ u. []) (length ss) refl)
              ∙ own t
              ∙ sym (get_or_at ws w [] 0 i (sym h.count ∙ sym e))
          | inr o ↦ elim o [
            | inl b ↦ ap (λ x. length (x t)) (get_or_append_left ss (s ∷ []) (λ u. []) i b)
                ∙ h.words i t
                ∙ sym (get_or_append_left ws (w ∷ []) 0 i (omega (arith, b, h.count)))
            | inr b ↦ ap (λ x. length (x t)) (get_or_past (ss ++ s ∷ []) i (λ u. []) (omega (arith, b, length-append ss (s ∷ []))))
                ∙ sym (get_or_past (ws ++ w ∷ []) i 0 (omega (arith, b, h.count, length-append ws (w ∷ []))))
          ]
        ];
      } in
      have-on (ss ++ s ∷ []) (ws ++ w ∷ []) ns next a.1 (λ j port v t g. f (suc j) port v t g)

-- the word of each node has the node's width at all times; past the last node both are 0
pub flow-width : (net : Net) → IsValid net → (inputs : Inputs) → All (AreWords (input_widths net)) inputs → (i : ℕ) (t : ℤ)
    → length (flow net.nodes inputs i t) ≡ slice_index (widths net.nodes) i
flow-width net v inputs a i t =
    (have-on inputs [] [] net.nodes (record { count = refl; words = λ i t. refl }) v.nodes (
    λ j port w t g. input_at-width (input_widths net) inputs a port w (input-width net v j port w g) t
    )).words i t
