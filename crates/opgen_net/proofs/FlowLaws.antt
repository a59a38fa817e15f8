-- Each node's stream is what its kind says over the streams of the whole net.
use Rattle.std.proofs.Common.{◌≡◌, ℕ, zero, suc, ◌+◌, ◌<◌, List, [], ◌∷◌, ◌++◌, length, length-append, Some, refl, sym, ap, ◌∙◌, subst, arith}
use Rattle.std.specs.Prelude.{ℤ, slice_get, slice_index}
use Rattle.std.proofs.lemmas.List.{get_or_append_left, get_or_at, append-nil, append_assoc}
use Rattle.opgen_num.specs.Words.{nat}
use Rattle.opgen_design.specs.declared.expr.Slice.{Slice}
use Rattle.opgen_net.specs.declared.node.Node.{Node}
use Rattle.opgen_net.specs.declared.node.Node.TheVariants.{Input, Constant, Cells, Choice, Table, Delay}
use Rattle.opgen_design.specs.Value.{word_at, cut, chosen}
use Rattle.opgen_net.specs.Flow.{Stream, before, Inputs, stream_at, part_at, stream_of, streams_on, flow}
use Rattle.opgen_net.specs.Valid.{node_width, widths_on, widths, LiesWithin, MayStand, AllMayStand}
use Rattle.opgen_design.proofs.ValueLaws.{same_value}
use Rattle.opgen_design.proofs.WidthLaws.{width-reads}

pub index_within : (ws : List ℕ) (i k : ℕ) → k < slice_index ws i → i < length ws
index_within [] i k h = absurd (omega (arith, h))
index_within (w ∷ ws) zero k h = omega arith
index_within (w ∷ ws) (suc i) k h = omega (arith, index_within ws i k h)

pub lies_within : (ws : List ℕ) (s : Slice) → LiesWithin ws s → s.node < length ws
lies_within ws s h = index_within ws s.node s.high h.1

-- the streams that stand stay
pub stream-kept : (inputs : Inputs) (ss : List Stream) (ns : List Node) (i : ℕ) → i < length ss
    → stream_at (streams_on inputs ss ns) i ≡ stream_at ss i
stream-kept inputs ss [] i h = refl
stream-kept inputs ss (n ∷ ns) i h =
    let s : Stream = stream_of inputs ss n in
    stream-kept inputs (ss ++ s ∷ []) ns i (omega (arith, h, length-append ss (s ∷ [])))
    ∙ get_or_append_left ss (s ∷ []) (λ t. []) i h

pub length-streams_on : (inputs : Inputs) (ss : List Stream) (ns : List Node) → length (streams_on inputs ss ns) ≡ length ss + length ns
length-streams_on inputs ss [] = omega arith
length-streams_on inputs ss (n ∷ ns) =
    let s : Stream = stream_of inputs ss n in
    omega (arith, length-streams_on inputs (ss ++ s ∷ []) ns, length-append ss (s ∷ []))

-- over streams that agree on the nodes before it, a node that may stand has one stream
module _ (inputs : Inputs) (ws : List ℕ) (ss rs : List Stream)
    (same : (i : ℕ) (t : ℤ) → i < length ws → stream_at ss i t ≡ stream_at rs i t) where
  same_part : (s : Slice) (t : ℤ) → LiesWithin ws s → part_at ss s t ≡ part_at rs s t
  same_part s t h = ap (cut s.high s.low) (same s.node t (lies_within ws s h))

  pub same_stream : (n : Node) (t : ℤ) → MayStand ws n → stream_of inputs ss n t ≡ stream_of inputs rs n t
  same_stream (Input port w) t h = refl
  same_stream (Constant w) t h = refl
  same_stream (Cells class w e) t h =
      same_value (λ i. i < length ws) (λ p. p < 0) (record { names = λ i. stream_at ss i t; ports = λ i. [] })
      (record { names = λ i. stream_at rs i t; ports = λ i. [] }) (λ i l. same i t l) (λ i l. refl) e (width-reads ws [] e w h.1.has_width)
  same_stream (Choice on one other) t h =
      let there : on < length ws = index_within ws on 0 (omega (arith, h.one_bit)) in
      ap (λ w. chosen w (part_at ss one t) (part_at ss other t)) (same on t there)
      ∙ ap (λ w. chosen (stream_at rs on t) w (part_at ss other t)) (same_part one t h.one_lies)
      ∙ ap (λ w. chosen (stream_at rs on t) (part_at rs one t) w) (same_part other t h.other_lies)
  same_stream (Table address rows) t h =
      ap (λ w. word_at rows (nat w)) (same address t (index_within ws address 0 (omega (arith, h.address_width.0))))
  same_stream (Delay of) t h = same of (before t) h

-- a node among others, with the widths before it
pub record StandsAt (ws : List ℕ) (i : ℕ) (n : Node) : Type 0 where
  pub earlier : List ℕ
  pub later : List ℕ
  pub place : length earlier ≡ i
  pub all : ws ≡ earlier ++ (node_width earlier n ∷ later)
  pub stands : MayStand earlier n

widths-kept : (ws : List ℕ) (ns : List Node) → (later : List ℕ) × (widths_on ws ns ≡ ws ++ later)
widths-kept ws [] = ([], sym (append-nil ws))
widths-kept ws (n ∷ ns) =
    let w = node_width ws n in
    let rest = widths-kept (ws ++ w ∷ []) ns in
    (w ∷ rest.0, rest.1 ∙ append_assoc ws (w ∷ []) rest.0)

pub length-widths_on : (ws : List ℕ) (ns : List Node) → length (widths_on ws ns) ≡ length ws + length ns
length-widths_on ws [] = omega arith
length-widths_on ws (n ∷ ns) =
    omega (arith, length-widths_on (ws ++ node_width ws n ∷ []) ns, length-append ws (node_width ws n ∷ []))

pub length-widths : (ns : List Node) → length (widths ns) ≡ length ns
length-widths ns = length-widths_on [] ns ∙ omega arith

stands_on : (ws : List ℕ) (ns : List Node) → AllMayStand ws ns → (j : ℕ) (n : Node) → slice_get ns j ≡ Some n
    → StandsAt (widths_on ws ns) (length ws + j) n
stands_on ws [] a j n h = absurd (cc)
stands_on ws (m ∷ ns) a zero n h =
    let is : m ≡ n = cc in
    let w = node_width ws m in
    let rest = widths-kept (ws ++ w ∷ []) ns in
    record {
      earlier = ws;
      later = rest.0;
      place = omega arith;
      all = rest.1 ∙ append_assoc ws (w ∷ []) rest.0 ∙ ap (λ k. ws ++ (node_width ws k ∷ rest.0)) is;
      stands = subst (MayStand ws) is a.0;
    }
stands_on ws (m ∷ ns) a (suc j) n h =
    let w = node_width ws m in
    let e : length (ws ++ w ∷ []) + j ≡ length ws + suc j = omega (arith, length-append ws (w ∷ [])) in
    subst (λ k. StandsAt (widths_on (ws ++ w ∷ []) ns) k n) e (stands_on (ws ++ w ∷ []) ns a.1 j n h)

pub stands_at : (nodes : List Node) → AllMayStand [] nodes → (i : ℕ) (n : Node) → slice_get nodes i ≡ Some n → StandsAt (widths nodes) i n
stands_at nodes a i n h = let e : 0 + i ≡ i = omega arith in subst (λ k. StandsAt (widths nodes) k n) e (stands_on [] nodes a i n h)

equation_on : (inputs : Inputs) (ws : List ℕ) (ss : List Stream) → length ws ≡ length ss → (ns : List Node) → AllMayStand ws ns
    → (j : ℕ) (n : Node) (t : ℤ) → slice_get ns j ≡ Some n
    → stream_at (streams_on inputs ss ns) (length ss + j) t ≡ stream_of inputs (streams_on inputs ss ns) n t
equation_on inputs ws ss l [] a j n t h = absurd (cc)
equation_on inputs ws ss l (m ∷ ns) a zero n t h =
    let s : Stream = stream_of inputs ss m in
    let whole : List Stream = streams_on inputs (ss ++ s ∷ []) ns in
    let e : length ss + 0 ≡ length ss = omega arith in
    let longer : length (ss ++ s ∷ []) ≡ length ss + 1 = omega (arith, length-append ss (s ∷ [])) in
    let is : m ≡ n = cc in
    let agree : (i : ℕ) (u : ℤ) → i < length ws → stream_at ss i u ≡ stream_at whole i u =
    λ i u k. ap (λ f. f u) (sym (stream-kept inputs ss (m ∷ ns) i (omega (arith, k, l)))) in
    ap (λ i. stream_at whole i t) e
    ∙ ap (λ f. f t) (stream-kept inputs (ss ++ s ∷ []) ns (length ss) (omega (arith, longer)))
    ∙ ap (λ f. f t) (get_or_at ss s [] (λ u. []) (length ss) refl)
    ∙ same_stream inputs ws ss whole agree m t a.0
    ∙ ap (λ k. stream_of inputs whole k t) is
equation_on inputs ws ss l (m ∷ ns) a (suc j) n t h =
    let s : Stream = stream_of inputs ss m in
    let w = node_width ws m in
    let e : length ss + suc j ≡ length (ss ++ s ∷ []) + j = omega (arith, length-append ss (s ∷ [])) in
    let same : length (ws ++ w ∷ []) ≡ length (ss ++ s ∷ []) = omega (arith, l, length-append ss (s ∷ []), length-append ws (w ∷ [])) in
    ap (λ i. stream_at (streams_on inputs (ss ++ s ∷ []) ns) i t) e ∙ equation_on inputs (ws ++ w ∷ []) (ss ++ s ∷ []) same ns a.1 j n t h

-- each node meets its equation over the whole net
pub flow_equation : (nodes : List Node) → AllMayStand [] nodes → (inputs : Inputs) (i : ℕ) (n : Node) (t : ℤ) → slice_get nodes i ≡ Some n
    → flow nodes inputs i t ≡ stream_of inputs (streams_on inputs [] nodes) n t
flow_equation nodes a inputs i n t h =
    let e : i ≡ 0 + i = omega arith in
    ap (λ k. flow nodes inputs k t) e ∙ equation_on inputs [] [] refl nodes a i n t h
