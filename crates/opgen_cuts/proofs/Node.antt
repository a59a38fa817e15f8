-- What is known where a node of the old net is taken: what it reads was taken before, has its bits, and if it needs it whole its place.
use Rattle.std.proofs.Common.{◌≡◌, ℕ, zero, suc, ◌+◌, ◌<◌, ◌≤◌, List, [], ◌∷◌, ◌++◌, length, length-append, Some, refl, sym, ap, ◌∙◌, subst, arith}
use Rattle.std.specs.Prelude.{ℤ, slice_get, slice_index}
use Rattle.std.proofs.lemmas.List.{get_or_append_left, get_or_at}
use Rattle.std.proofs.lemmas.List.Elements.{All-weaker}
use Rattle.std.proofs.lemmas.Option.{get_or_from_slice_get, slice_get-get_or, slice_get_within}
use Rattle.opgen_design.specs.Sound.{AllReads, AllOperandsRead}
use Rattle.opgen_design.specs.Tree.{Tree, Trees, name, part, bits, port, inverse, chain, none, more}
use Rattle.opgen_design.proofs.ReadLaws.{reads-weaker}
use Rattle.opgen_design.proofs.WidthLaws.{width-reads}
use Rattle.opgen_net.specs.declared.cell.Class.{Class}
use Rattle.opgen_net.specs.declared.cell.Class.TheVariants as class
use Rattle.opgen_net.specs.declared.net.Net.{Net}
use Rattle.opgen_net.specs.declared.node.Node.{Node}
use Rattle.opgen_net.specs.declared.node.Node.TheVariants.{Input, Constant, Cells, Choice, Table, Delay}
use Rattle.opgen_net.specs.Delays.{delays_read, operand_delays, node_delays, delays_on, delays}
use Rattle.opgen_net.specs.Flow.{Inputs, flow, stream_of, streams_on}
use Rattle.opgen_net.specs.Valid.{IsValid, MayStand, node_width, widths}
use Rattle.opgen_net.proofs.FlowLaws.{flow_equation, index_within, length-widths, lies_within, stands_at}
use Rattle.opgen_net.proofs.Standing.{may_stand, width_at}
use Rattle.opgen_pieces.specs.Law.{bit_delays}
use Rattle.opgen_cuts.specs.declared.cutting.Cutting.{Cutting}
use Rattle.opgen_cuts.specs.Needed.{needed}
use Rattle.opgen_cuts.specs.Wires.{bits_at}
use Rattle.opgen_cuts.proofs.Marks.{IsMarked, CellsNeed, Needs, Reads, all_reads-weaker, needed-nodes, needs-weaker}
use Rattle.opgen_cuts.proofs.Renames.{AnyPort}
use Rattle.opgen_cuts.proofs.State.{AreBitsOf, IsCut, IsPlaceOf, delays_to, place-width}

-- two facts of what is read

module _ (P Q : ℕ → Type 0) where
  mutual
    trees-both : (t : Tree) → AllReads P AnyPort t → AllReads Q AnyPort t → AllReads (λ n. P n × Q n) AnyPort t
    trees-both (name n) h k = (h, k)
    trees-both (part n high low) h k = (h, k)
    trees-both (bits w) h k = tt
    trees-both (port p) h k = tt
    trees-both (inverse t) h k = trees-both t h k
    trees-both (chain op ts) h k = operands-both ts h k

    operands-both : (ts : Trees) → AllOperandsRead P AnyPort ts → AllOperandsRead Q AnyPort ts → AllOperandsRead (λ n. P n × Q n) AnyPort ts
    operands-both none h k = tt
    operands-both (more t ts) h k = (trees-both t h.0 k.0, operands-both ts h.1 k.1)

  cells-both : (c : Class) (e : Tree) → AllReads P AnyPort e → CellsNeed Q c e → CellsNeed (λ n. P n × Q n) c e
  cells-both class.Wire e h k = tt
  cells-both class.Logic e h k = trees-both e h k
  cells-both class.Add e h k = tt
  cells-both class.Choice e h k = trees-both e h k
  cells-both class.Table e h k = trees-both e h k
  cells-both class.Register e h k = trees-both e h k

  needs-both : (n : Node) → Reads P n → Needs Q n → Needs (λ i. P i × Q i) n
  needs-both (Input place w) h k = tt
  needs-both (Constant w) h k = tt
  needs-both (Cells c w e) h k = cells-both c e h k
  needs-both (Choice on one other) h k = ((h.0, k.0), (h.1, k.1), (h.2, k.2))
  needs-both (Table address rows) h k = (h, k)
  needs-both (Delay of) h k = (h, k)

  reads-both : (n : Node) → Reads P n → Reads Q n → Reads (λ i. P i × Q i) n
  reads-both (Input place w) h k = tt
  reads-both (Constant w) h k = tt
  reads-both (Cells c w e) h k = trees-both e h k
  reads-both (Choice on one other) h k = ((h.0, k.0), (h.1, k.1), (h.2, k.2))
  reads-both (Table address rows) h k = (h, k)
  reads-both (Delay of) h k = (h, k)

-- a node that may stand reads nodes that are there
stand-reads : (ws : List ℕ) (n : Node) → MayStand ws n → Reads (λ j. j < length ws) n
stand-reads ws (Input place w) h = tt
stand-reads ws (Constant w) h = tt
stand-reads ws (Cells c w e) h =
    reads-weaker (λ j. j < length ws) (λ p. p < 0) (λ j. j < length ws) AnyPort (λ j l. l) (λ p l. tt) e (width-reads ws [] e w h.1.has_width)
stand-reads ws (Choice on one other) h =
    (index_within ws on 0 (omega (arith, h.one_bit)), lies_within ws one h.one_lies, lies_within ws other h.other_lies)
stand-reads ws (Table address rows) h = index_within ws address 0 (omega (arith, h.address_width.0))
stand-reads ws (Delay of) h = h

-- the delays of a node among others, by those of the nodes before it
record DelaysAt (all : List ℕ) (k : ℕ) (n : Node) : Type 0 where
  earlier : List ℕ
  same : (i : ℕ) → i < k → slice_index earlier i ≡ slice_index all i
  is : slice_index all k ≡ node_delays earlier n

kept-on : (ds : List ℕ) (ns : List Node) (i : ℕ) → i < length ds → slice_index ds i ≡ slice_index (delays_on ds ns) i
kept-on ds [] i h = refl
kept-on ds (n ∷ ns) i h =
    sym (get_or_append_left ds (node_delays ds n ∷ []) 0 i h)
    ∙ kept-on (ds ++ node_delays ds n ∷ []) ns i (omega (arith, h, length-append ds (node_delays ds n ∷ [])))

delays-on_at : (ds : List ℕ) (ns : List Node) (j : ℕ) (n : Node) → slice_get ns j ≡ Some n → DelaysAt (delays_on ds ns) (length ds + j) n
delays-on_at ds [] j n h = absurd (cc)
delays-on_at ds (m ∷ ns) zero n h =
    let is : m ≡ n = cc in
    let d = node_delays ds m in
    let e : length ds + 0 ≡ length ds = omega arith in
    record {
      earlier = ds;
      same = λ i l. kept-on ds (m ∷ ns) i (omega (arith, l));
      is = ap (slice_index (delays_on (ds ++ d ∷ []) ns)) e
          ∙ sym (kept-on (ds ++ d ∷ []) ns (length ds) (omega (arith, length-append ds (d ∷ []))))
          ∙ get_or_at ds d [] 0 (length ds) refl
          ∙ ap (node_delays ds) is;
    }
delays-on_at ds (m ∷ ns) (suc j) n h =
    let d = node_delays ds m in
    let e : length (ds ++ d ∷ []) + j ≡ length ds + suc j = omega (arith, length-append ds (d ∷ [])) in
    subst (λ k. DelaysAt (delays_on (ds ++ d ∷ []) ns) k n) e (delays-on_at (ds ++ d ∷ []) ns j n h)

delays_at : (nodes : List Node) (k : ℕ) (n : Node) → slice_get nodes k ≡ Some n → DelaysAt (delays nodes) k n
delays_at nodes k n h = let e : 0 + k ≡ k = omega arith in subst (λ i. DelaysAt (delays nodes) i n) e (delays-on_at [] nodes k n h)

-- what is read passes no more delays than the reader

module _ (earlier all : List ℕ) (k most : ℕ) (same : (i : ℕ) → i < k → slice_index earlier i ≡ slice_index all i) where
  abbrev IsEarly : ℕ → Type 0
  IsEarly j = slice_index all j ≤ most

  mutual
    tree-early : (t : Tree) → AllReads (λ j. j < k) AnyPort t → delays_read earlier t ≤ most → AllReads IsEarly AnyPort t
    tree-early (name n) h l = omega (arith, l, same n h)
    tree-early (part n high low) h l = omega (arith, l, same n h)
    tree-early (bits w) h l = tt
    tree-early (port p) h l = tt
    tree-early (inverse t) h l = tree-early t h l
    tree-early (chain op ts) h l = operands-early ts h l

    operands-early : (ts : Trees) → AllOperandsRead (λ j. j < k) AnyPort ts → operand_delays earlier ts ≤ most
        → AllOperandsRead IsEarly AnyPort ts
    operands-early none h l = tt
    operands-early (more t ts) h l = (tree-early t h.0 (omega (arith, l)), operands-early ts h.1 (omega (arith, l)))

  node-early : (n : Node) → Reads (λ j. j < k) n → node_delays earlier n ≤ most → Reads IsEarly n
  node-early (Input place w) h l = tt
  node-early (Constant w) h l = tt
  node-early (Cells c w e) h l = tree-early e h l
  node-early (Choice on one other) h l =
      (omega (arith, l, same on h.0), omega (arith, l, same one.node h.1), omega (arith, l, same other.node h.2))
  node-early (Table address rows) h l = omega (arith, l, same address h)
  node-early (Delay of) h l = omega (arith, l, same of h)

module _ (before : Net) (valid : IsValid before) (most k : ℕ) (s : Cutting) (cut : IsCut before most k s) (n : Node)
    (at : slice_get before.nodes k ≡ Some n) where
  pub is_there : k < length before.nodes
  is_there = slice_get_within before.nodes k n at

  pub equation : (inputs : Inputs) (t : ℤ) → flow before.nodes inputs k t ≡ stream_of inputs (streams_on inputs [] before.nodes) n t
  equation inputs t = flow_equation before.nodes valid.nodes inputs k n t at

  pub stands : MayStand (widths before.nodes) n
  stands = may_stand before.nodes valid.nodes k n at

  pub has_width : slice_index (widths before.nodes) k ≡ node_width (widths before.nodes) n
  has_width = width_at before.nodes valid.nodes k n at

  pub near : Reads (λ j. j < k) n
  near =
      let a = stands_at before.nodes valid.nodes k n at in
      all_reads-weaker (λ j. j < length a.earlier) (λ j. j < k) (λ j l. omega (arith, l, a.place)) n (stand-reads a.earlier n a.stands)

  pub early : Reads (λ j. delays_to before j ≤ delays_to before k) n
  early =
      let d = delays_at before.nodes k n at in
      node-early d.earlier (delays before.nodes) k (delays_to before k) d.same n near (omega (arith, d.is))

  -- a delay passes one more
  pub early-delay : (of : ℕ) → n ≡ Delay of → suc (delays_to before of) ≤ delays_to before k
  early-delay of e =
      let d = delays_at before.nodes k n at in
      let before_it : of < k = subst (Reads (λ j. j < k)) e near in
      let is : delays_to before k ≡ suc (slice_index d.earlier of) = d.is ∙ ap (node_delays d.earlier) e in
      omega (arith, is, d.same of before_it)

  -- the bits of what is read
  abbrev pub HasBits : ℕ → Type 0
  HasBits j = AreBitsOf before s.net (delays_to before k) j (bits_at s.bits j)

  pub has_bits : Reads HasBits n
  has_bits =
      all_reads-weaker (λ j. (j < k) × (delays_to before j ≤ delays_to before k)) HasBits
      (
      λ j h.
      let b = cut.bits j h.0 in
      record {
        there = b.there;
        words = b.words;
        late = All-weaker (λ b. bit_delays (delays s.net.nodes) b ≤ delays_to before j) (λ b. bit_delays (delays s.net.nodes) b ≤ delays_to before k)
            (λ b l. omega (arith, l, h.1)) (bits_at s.bits j) b.late;
      }
      )
      n (reads-both (λ j. j < k) (λ j. delays_to before j ≤ delays_to before k) n near early)

  -- the places of what is needed whole
  pub is_needed : Needs (λ j. (j < k) × IsMarked (needed before) j) n
  is_needed =
      needs-both (λ j. j < k) (IsMarked (needed before)) n near
      (needed-nodes before k n at (all_reads-weaker (λ j. j < k) (λ j. j < length before.nodes) (λ j l. omega (arith, l, is_there)) n near))

  abbrev pub HasPlace : ℕ → Type 0
  HasPlace j = IsPlaceOf before s.net (delays_to before k) j (slice_index s.places j)

  pub has_places : Needs HasPlace n
  has_places =
      needs-weaker (λ j. (delays_to before j ≤ delays_to before k) × ((j < k) × IsMarked (needed before) j)) HasPlace
      (
      λ j h.
      let p = cut.places j h.1.0 h.1.1 in
      record { there = p.there; words = p.words; late = omega (arith, p.late, h.0) }
      )
      n (needs-both (λ j. delays_to before j ≤ delays_to before k) (λ j. (j < k) × IsMarked (needed before) j) n early is_needed)

  -- a place has the width of its node
  pub same_width : (j : ℕ) → HasPlace j → slice_index (widths s.net.nodes) (slice_index s.places j) ≡ slice_index (widths before.nodes) j
  same_width j p = place-width before valid s.net (delays_to before k) j cut.valid (slice_index s.places j) p

  pub get_width : (j w : ℕ) → HasPlace j → slice_get (widths before.nodes) j ≡ Some w
      → slice_get (widths s.net.nodes) (slice_index s.places j) ≡ Some w
  get_width j w p h =
      slice_get-get_or (widths s.net.nodes) (slice_index s.places j) 0 (omega (arith, p.there, length-widths s.net.nodes))
      ∙ ap Some (same_width j p ∙ get_or_from_slice_get (widths before.nodes) j w 0 h)
