-- What is made for a sum, and one piece of it.
use Rattle.std.proofs.Common.{◌≡◌, ℕ, zero, suc, ◌+◌, ◌≤◌, ◌<◌, Bool, List, [], ◌∷◌, ◌++◌, length, length-append, drop, refl, sym, ap, ◌∙◌, subst, arith}
use Rattle.std.specs.Prelude.{All, slice_index, slice_index_or}
use Rattle.std.proofs.lemmas.List.{append-nil, append_assoc, drop_at, get_or_append_left, get_or_at}
use Rattle.std.proofs.lemmas.List.Elements.{All-append, All-cons, All-nil}
use Rattle.opgen_net.specs.declared.cell.Class.TheVariants.{Add}
use Rattle.opgen_net.specs.declared.net.Net.{Net}
use Rattle.opgen_net.specs.declared.node.Node.{Node}
use Rattle.opgen_net.specs.declared.node.Node.TheVariants.{Cells}
use Rattle.opgen_net.specs.declared.word_bits.WordBit.{WordBit}
use Rattle.opgen_net.specs.declared.word_bits.WordBit.TheVariants.{Zero, One, Of}
use Rattle.opgen_net.specs.Delays.{delays, delays_on, node_delays}
use Rattle.opgen_net.specs.Grown.{HasGrown}
use Rattle.opgen_net.specs.Valid.{IsValid, widths}
use Rattle.opgen_net.specs.WordRule.{IsThere, bits_from}
use Rattle.opgen_net.proofs.Appending.{flow-append_last, width-append_last}
use Rattle.opgen_net.proofs.BitLists.{bits_from-there, length-bits_from, whole-flow}
use Rattle.opgen_net.proofs.FlowLaws.{index_within, length-widths}
use Rattle.opgen_net.proofs.FlowWidths.{flow-width}
use Rattle.opgen_net.proofs.Grown.{grown-nodes}
use Rattle.opgen_net.proofs.Later.{Later, later-node}
use Rattle.opgen_pieces.specs.Law.{AppendsNarrow, AreOperands, BitsPassAtMost, HasSum, IsNarrow, PassesNoMore, bit_delays}
use Rattle.opgen_pieces.specs.Recipe.{Pieces, sum_tree, with_piece}
use Rattle.opgen_pieces.proofs.Expressions.{sum-class, sum-fits, sum-reads, sum-value}

-- the nodes and the bits of a sum
pub record Made (most : ℕ) (m : Bool) (first second : List WordBit) (net : Net) (made : Pieces) : Type 0 where
  pub later : Later net made.net
  pub width : length made.bits ≡ length first
  pub there : All (IsThere (widths made.net.nodes)) made.bits
  pub sum : HasSum m first second net made.bits made.net
  pub narrow : AppendsNarrow most net made.net
  pub passes : PassesNoMore first second net made.bits made.net

-- what is behind a list, and behind what is there already
pub behind-then : {A : Type 0} (P : A → Type 0) (old more rest : List A) → All P more → All P rest
    → All P (drop (length old) ((old ++ more) ++ rest))
behind-then P old more rest f g =
    subst (All P) (sym (ap (drop (length old)) (append_assoc old more rest) ∙ drop_at old (more ++ rest) (length old) refl))
    (All-append P more rest f g)

-- delays

delays-append : (a b : List Node) → delays (a ++ b) ≡ delays_on (delays a) b
delays-append a b = on [] a
  where
    on : (ds : List ℕ) (ns : List Node) → delays_on ds (ns ++ b) ≡ delays_on (delays_on ds ns) b
    on ds [] = refl
    on ds (n ∷ ns) = on (ds ++ node_delays ds n ∷ []) ns

pub length-delays : (nodes : List Node) → length (delays nodes) ≡ length nodes
length-delays nodes = on [] nodes ∙ omega arith
  where
    on : (ds : List ℕ) (ns : List Node) → length (delays_on ds ns) ≡ length ds + length ns
    on ds [] = omega arith
    on ds (n ∷ ns) = omega (arith, on (ds ++ node_delays ds n ∷ []) ns, length-append ds (node_delays ds n ∷ []))

-- the delays of nodes behind others stand behind theirs
delays-behind : (ds : List ℕ) (ns : List Node) → (more : List ℕ) × (delays_on ds ns ≡ ds ++ more)
delays-behind ds [] = ([], sym (append-nil ds))
delays-behind ds (n ∷ ns) =
    let d = node_delays ds n in
    let rest = delays-behind (ds ++ d ∷ []) ns in
    (d ∷ rest.0, rest.1 ∙ append_assoc ds (d ∷ []) rest.0)

-- a net that has grown keeps the delays of its nodes, and of bits of them
module _ (old new : Net) (grown : HasGrown old new) where
  abbrev more : List Node
  more = drop (length old.nodes) new.nodes

  pub grown-delays : (later : List ℕ) × (delays new.nodes ≡ delays old.nodes ++ later)
  grown-delays =
      let behind = delays-behind (delays old.nodes) more in
      (behind.0, ap delays (sym (grown-nodes old new grown)) ∙ delays-append old.nodes more ∙ behind.1)

  pub bit-delays : (b : WordBit) → IsThere (widths old.nodes) b → bit_delays (delays new.nodes) b ≡ bit_delays (delays old.nodes) b
  bit-delays Zero h = refl
  bit-delays One h = refl
  bit-delays (Of node index) h =
      let within : node < length (delays old.nodes) =
      omega (arith, index_within (widths old.nodes) node index h, length-widths old.nodes, length-delays old.nodes) in
      ap (λ ds. slice_index ds node) grown-delays.1 ∙ get_or_append_left (delays old.nodes) grown-delays.0 0 node within

  pub bits-pass : (most : ℕ) (bits : List WordBit) → All (IsThere (widths old.nodes)) bits → BitsPassAtMost most old bits
      → BitsPassAtMost most new bits
  bits-pass most bits there h = λ k d l.
      let b = slice_index_or bits k d in omega (arith, bit-delays b (there k d l), h k d l)

-- two steps, one behind the other
module _ (a b c : Net) (p : HasGrown a b) (q : HasGrown b c) where
  pub narrow-then : (most : ℕ) → AppendsNarrow most a b → AppendsNarrow most b c → AppendsNarrow most a c
  narrow-then most f g =
      let more = drop (length a.nodes) b.nodes in
      let rest = drop (length b.nodes) c.nodes in
      subst (λ ns. All (IsNarrow most) (drop (length a.nodes) ns)) (ap (λ ns. ns ++ rest) (grown-nodes a b p) ∙ grown-nodes b c q)
      (behind-then (IsNarrow most) a.nodes more rest f g)

  pub delays-then : (most : ℕ) → All (λ d. d ≤ most) (drop (length a.nodes) (delays b.nodes))
      → All (λ d. d ≤ most) (drop (length b.nodes) (delays c.nodes)) → All (λ d. d ≤ most) (drop (length a.nodes) (delays c.nodes))
  delays-then most f g =
      let of_b = grown-delays a b p in
      let of_c = grown-delays b c q in
      let P = λ (d : ℕ). d ≤ most in
      let long_a : length (delays a.nodes) ≡ length a.nodes = length-delays a.nodes in
      let long_b : length (delays b.nodes) ≡ length b.nodes = length-delays b.nodes in
      let more : All P of_b.0 =
      subst (All P) (ap (drop (length a.nodes)) of_b.1 ∙ drop_at (delays a.nodes) of_b.0 (length a.nodes) long_a) f in
      let rest : All P of_c.0 =
      subst (All P) (ap (drop (length b.nodes)) of_c.1 ∙ drop_at (delays b.nodes) of_c.0 (length b.nodes) long_b) g in
      subst (λ n. All P (drop n (delays c.nodes))) long_a
      (subst (λ ds. All P (drop (length (delays a.nodes)) ds)) (sym (of_c.1 ∙ ap (λ ds. ds ++ of_c.0) of_b.1))
      (behind-then P (delays a.nodes) of_b.0 of_c.0 more rest))

-- all bits of a node have its delays
node-passes : (ds : List ℕ) (most node low count : ℕ) → slice_index ds node ≤ most
    → All (λ b. bit_delays ds b ≤ most) (bits_from node low count)
node-passes ds most node low zero h = All-nil (λ b. bit_delays ds b ≤ most)
node-passes ds most node low (suc k) h =
    All-cons (λ b. bit_delays ds b ≤ most) (Of node (low + k)) (bits_from node low k) h (node-passes ds most node low k h)

-- one piece
module _ (m : Bool) (first second : List WordBit) (net : Net) (valid : IsValid net) (are : AreOperands net first second) where
  abbrev width : ℕ
  width = length first

  abbrev ws : List ℕ
  ws = widths net.nodes

  abbrev node : Node
  node = Cells Add width (sum_tree ws m first second)

  abbrev made : Pieces
  made = with_piece m first second net

  abbrev place : ℕ
  place = length net.nodes

  piece-later : Later net made.net
  piece-later =
      later-node net node valid
      (sum-class ws m first second, sum-fits ws m first second are.width are.alike are.first_there are.second_there) refl

  piece-width : slice_index (widths made.net.nodes) place ≡ width
  piece-width = width-append_last net.nodes node

  piece-sum : HasSum m first second net made.bits made.net
  piece-sum inputs t words =
      whole-flow made.net.nodes inputs t place width (flow-width made.net piece-later.valid inputs words place t ∙ piece-width)
      ∙ flow-append_last net.nodes node inputs t
      ∙ sum-value net valid inputs t words m first second are.first_there are.second_there

  piece-narrow : (most : ℕ) → width ≤ most → AppendsNarrow most net made.net
  piece-narrow most few =
      subst (All (IsNarrow most)) (sym (drop_at net.nodes (node ∷ []) place refl))
      (All-cons (IsNarrow most) node [] few (All-nil (IsNarrow most)))

  module _ (most : ℕ) (f : BitsPassAtMost most net first) (g : BitsPassAtMost most net second) where
    abbrev ds : List ℕ
    ds = delays net.nodes

    node-delays : node_delays ds node ≤ most
    node-delays = sum-reads ws ds most m first second f g

    piece-delays : delays made.net.nodes ≡ ds ++ node_delays ds node ∷ []
    piece-delays = delays-append net.nodes (node ∷ [])

    long : length ds ≡ place
    long = length-delays net.nodes

    nodes-pass : All (λ d. d ≤ most) (drop place (delays made.net.nodes))
    nodes-pass =
        let P = λ (d : ℕ). d ≤ most in
        subst (All P) (sym (ap (drop place) piece-delays ∙ drop_at ds (node_delays ds node ∷ []) place long))
        (All-cons P (node_delays ds node) [] node-delays (All-nil P))

    made-pass : BitsPassAtMost most made.net made.bits
    made-pass =
        let at : slice_index (delays made.net.nodes) place ≡ node_delays ds node =
        ap (λ es. slice_index es place) piece-delays ∙ get_or_at ds (node_delays ds node) [] 0 place long in
        node-passes (delays made.net.nodes) most place 0 width (omega (arith, at, node-delays))

  pub piece-made : (most : ℕ) → width ≤ most → Made most m first second net made
  piece-made most few = record {
    later = piece-later;
    width = length-bits_from place 0 width;
    there = bits_from-there (widths made.net.nodes) place 0 width (omega (arith, piece-width));
    sum = piece-sum;
    narrow = piece-narrow most few;
    passes = record { nodes = nodes-pass; bits = made-pass };
  }
