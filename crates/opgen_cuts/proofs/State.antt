-- The state of the recipe after some nodes of the old net: each has its bits, and if it is needed its place, with its words at all times
-- and no more delays.
use Rattle.std.proofs.Common.{◌≡◌, ℕ, zero, suc, ◌+◌, ◌<◌, ◌≤◌, map, Bool, true, false, List, [], ◌∷◌, ◌++◌, length, length-append, Some, refl, sym, ap, ◌∙◌, subst, arith, below_more}
use Rattle.std.specs.Prelude.{ℤ, pos, All, slice_get, slice_index, slice_index_or}
use Rattle.std.proofs.lemmas.List.{get_or_append_left, get_or_at}
use Rattle.std.proofs.lemmas.List.Elements.{All-append, All-cons, All-nil}
use Rattle.opgen_design.specs.Run.{AreWords}
use Rattle.opgen_design.specs.Value.{IsWidth}
use Rattle.opgen_net.specs.declared.net.Net.{Net}
use Rattle.opgen_net.specs.declared.node.Node.{Node}
use Rattle.opgen_net.specs.declared.word_bits.WordBit.{WordBit}
use Rattle.opgen_net.specs.declared.word_bits.WordBit.TheVariants.{Zero, One, Of}
use Rattle.opgen_net.specs.Delays.{delays, node_delays, PassesAtMost}
use Rattle.opgen_net.specs.Flow.{Inputs, input_at, flow, stream_of, streams_on, KeepsFlow}
use Rattle.opgen_net.specs.Grown.{HasGrown}
use Rattle.opgen_net.specs.Placed.{with_bits, with_last}
use Rattle.opgen_net.specs.Valid.{IsValid, MayStand, input_nodes, input_widths, node_width, widths}
use Rattle.opgen_net.specs.WordRule.{IsThere, bits_from, word_flow}
use Rattle.opgen_net.proofs.Appending.{flow-append_before, flow-append_last, valid-append, width-append_before, width-append_last}
use Rattle.opgen_net.proofs.BitLists.{bits_from-there, length-word_flow, whole-flow, word-kept}
use Rattle.opgen_net.proofs.FlowLaws.{index_within, length-widths}
use Rattle.opgen_net.proofs.FlowWidths.{are_widths, flow-width}
use Rattle.opgen_net.proofs.Grown.{grown-count, grown-flow, grown-passes, grown-same, grown-then, grown-width}
use Rattle.opgen_net.proofs.Later.{Later, bits-later, words-later}
use Rattle.opgen_net.proofs.WordLaws.{word-found_width, word-has_bits}
use Rattle.opgen_pieces.specs.Law.{bit_delays, BitsPassAtMost}
use Rattle.opgen_cuts.specs.declared.cutting.Cutting.{Cutting}
use Rattle.opgen_cuts.specs.Needed.{needed}
use Rattle.opgen_cuts.specs.Recipe.{with_entry, with_given, with_new}
use Rattle.opgen_cuts.specs.Same.{HasNoWideSum}
use Rattle.opgen_cuts.specs.Wires.{bits_at}
use Rattle.opgen_cuts.proofs.Late.{KeepsDelays, delay-append_before, delay-append_last, grown-delays, passes-append, word-found_late, word-found_narrow}
use Rattle.opgen_cuts.proofs.Marks.{IsMarked}

-- a net with further nodes: those of before keep their widths, words and delays
pub record Extends (old new : Net) : Type 0 where
  pub inputs : new.inputs ≡ old.inputs
  pub count : length old.nodes ≤ length new.nodes
  pub width : (n : ℕ) → n < length old.nodes → slice_index (widths new.nodes) n ≡ slice_index (widths old.nodes) n
  pub words : KeepsFlow old.nodes new.nodes
  pub delays : KeepsDelays old.nodes new.nodes

pub extends-grown : (old new : Net) → HasGrown old new → Extends old new
extends-grown old new grown = record {
  inputs = grown.inputs;
  count = grown-count old new grown;
  width = grown-width old new grown;
  words = grown-flow old new grown;
  delays = grown-delays old new grown;
}

pub extends-same : (net : Net) → Extends net net
extends-same net = extends-grown net net (grown-same net)

extends-last : (net : Net) (n : Node) → Extends net (with_last net n)
extends-last net n = record {
  inputs = refl;
  count = omega (arith, length-append net.nodes (n ∷ []));
  width = λ k h. width-append_before net.nodes n k h;
  words = flow-append_before net.nodes n;
  delays = λ k h. delay-append_before net.nodes n k h;
}

-- bits of a net that have at every time, for all inputs of the ports' widths, the word of a node of the old net
pub record AreBitsOf (before after : Net) (most n : ℕ) (given : List WordBit) : Type 0 where
  pub there : All (IsThere (widths after.nodes)) given
  pub words :
      (inputs : Inputs) (t : ℤ) → All (AreWords (input_widths before)) inputs
      → word_flow after.nodes inputs given t ≡ flow before.nodes inputs n t
  pub late : BitsPassAtMost most after given

-- a node that has it
pub record IsPlaceOf (before after : Net) (most n place : ℕ) : Type 0 where
  pub there : place < length after.nodes
  pub words :
      (inputs : Inputs) (t : ℤ) → All (AreWords (input_widths before)) inputs
      → flow after.nodes inputs place t ≡ flow before.nodes inputs n t
  pub late : slice_index (delays after.nodes) place ≤ most

-- the node of an input port
pub record IsPort (after : Net) (port width : ℕ) : Type 0 where
  pub there : port < length after.nodes
  pub wide : slice_index (widths after.nodes) port ≡ width
  pub words : (inputs : Inputs) (t : ℤ) → flow after.nodes inputs port t ≡ input_at inputs port width t
  pub late : slice_index (delays after.nodes) port ≤ 0

module _ (old new : Net) (more : Extends old new) where
  there-kept : (b : WordBit) → IsThere (widths old.nodes) b → IsThere (widths new.nodes) b
  there-kept Zero h = tt
  there-kept One h = tt
  there-kept (Of n i) h =
      omega (arith, h, more.width n (omega (arith, index_within (widths old.nodes) n i h, length-widths old.nodes)))

  late-kept : (b : WordBit) → IsThere (widths old.nodes) b → bit_delays (delays new.nodes) b ≡ bit_delays (delays old.nodes) b
  late-kept Zero h = refl
  late-kept One h = refl
  late-kept (Of n i) h = more.delays n (omega (arith, index_within (widths old.nodes) n i h, length-widths old.nodes))

  pub bits-kept : (before : Net) (most n : ℕ) (given : List WordBit) → AreBitsOf before old most n given → AreBitsOf before new most n given
  bits-kept before most n given h = record {
    there = λ k d l. there-kept (slice_index_or given k d) (h.there k d l);
    words = λ inputs t words. word-kept old.nodes new.nodes more.words inputs t given h.there ∙ h.words inputs t words;
    late = λ k d l. omega (arith, h.late k d l, late-kept (slice_index_or given k d) (h.there k d l));
  }

  pub place-kept : (before : Net) (most n place : ℕ) → IsPlaceOf before old most n place → IsPlaceOf before new most n place
  place-kept before most n place h = record {
    there = omega (arith, h.there, more.count);
    words = λ inputs t words. more.words inputs place t h.there ∙ h.words inputs t words;
    late = omega (arith, h.late, more.delays place h.there);
  }

  pub port-kept : (port width : ℕ) → IsPort old port width → IsPort new port width
  port-kept port width h = record {
    there = omega (arith, h.there, more.count);
    wide = more.width port h.there ∙ h.wide;
    words = λ inputs t. more.words inputs port t h.there ∙ h.words inputs t;
    late = omega (arith, h.late, more.delays port h.there);
  }

-- the widths are those of the node
module _ (before : Net) (valid : IsValid before) (after : Net) (most n : ℕ) where
  abbrev no_inputs : All (AreWords (input_widths before)) []
  no_inputs = All-nil (AreWords (input_widths before))

  pub bits-count : (given : List WordBit) → AreBitsOf before after most n given → length given ≡ slice_index (widths before.nodes) n
  bits-count given h =
      sym (length-word_flow after.nodes [] (pos 0) given)
      ∙ ap length (h.words [] (pos 0) no_inputs)
      ∙ flow-width before valid [] no_inputs n (pos 0)

  pub place-width : IsValid after → (place : ℕ) → IsPlaceOf before after most n place
      → slice_index (widths after.nodes) place ≡ slice_index (widths before.nodes) n
  place-width stands place h =
      sym (flow-width after stands [] (All-nil (AreWords (input_widths after))) place (pos 0))
      ∙ ap length (h.words [] (pos 0) no_inputs)
      ∙ flow-width before valid [] no_inputs n (pos 0)

-- the most delays on a way to a node of a net
abbrev pub delays_to : Net → ℕ → ℕ
delays_to net n = slice_index (delays net.nodes) n

-- the first nodes of the old net have been taken, so many
pub record IsCut (before : Net) (most k : ℕ) (s : Cutting) : Type 0 where
  pub valid : IsValid s.net
  pub inputs : s.net.inputs ≡ before.inputs
  pub bits_count : length s.bits ≡ k
  pub places_count : length s.places ≡ k
  pub ports : (port width : ℕ) → slice_get (input_widths before) port ≡ Some width → IsPort s.net port width
  pub bits : (n : ℕ) → n < k → AreBitsOf before s.net (delays_to before n) n (bits_at s.bits n)
  pub places : (n : ℕ) → n < k → IsMarked (needed before) n → IsPlaceOf before s.net (delays_to before n) n (slice_index s.places n)
  pub passes : (m : ℕ) → ((n : ℕ) → n < k → delays_to before n ≤ m) → PassesAtMost m s.net.nodes
  pub narrow : All (HasNoWideSum most) s.net.nodes

module _ (before : Net) (valid : IsValid before) (most k : ℕ) (s : Cutting) (cut : IsCut before most k s) where
  abbrev bound : ℕ
  bound = delays_to before k

  pub words-there : (inputs : Inputs) → All (AreWords (input_widths before)) inputs → All (AreWords (input_widths s.net)) inputs
  words-there inputs words = subst (λ is. All (AreWords (map (λ (i : List ℕ × ℕ). i.1) is)) inputs) (sym cut.inputs) words

  -- one node more, with its bits and its place
  pub next : (net : Net) (given : List WordBit) (place : ℕ) → Extends s.net net → IsValid net → AreBitsOf before net bound k given
      → (IsMarked (needed before) k → IsPlaceOf before net bound k place)
      → ((m : ℕ) → bound ≤ m → PassesAtMost m s.net.nodes → PassesAtMost m net.nodes)
      → All (HasNoWideSum most) net.nodes
      → IsCut before most (k + 1) (with_entry given place (record s { net = net }))
  next net given place more stands bits there passes narrow = record {
    valid = stands;
    inputs = more.inputs ∙ cut.inputs;
    bits_count = omega (arith, length-append s.bits (given ∷ []), cut.bits_count);
    places_count = omega (arith, length-append s.places (place ∷ []), cut.places_count);
    ports = λ port width h. port-kept s.net net more port width (cut.ports port width h);
    bits =
        let P : ℕ → Type 0 = λ n. AreBitsOf before net (delays_to before n) n (bits_at (s.bits ++ given ∷ []) n) in
        below_more P k
        (
        λ n l.
        subst (AreBitsOf before net (delays_to before n) n)
        (sym (get_or_append_left s.bits (given ∷ []) [] n (omega (arith, l, cut.bits_count))))
        (bits-kept s.net net more before (delays_to before n) n (bits_at s.bits n) (cut.bits n l))
        )
        (subst (AreBitsOf before net bound k) (sym (get_or_at s.bits given [] [] k cut.bits_count)) bits);
    places =
        let P : ℕ → Type 0 = λ n. IsMarked (needed before) n
        → IsPlaceOf before net (delays_to before n) n (slice_index (s.places ++ place ∷ []) n) in
        below_more P k
        (
        λ n l m.
        subst (IsPlaceOf before net (delays_to before n) n)
        (sym (get_or_append_left s.places (place ∷ []) 0 n (omega (arith, l, cut.places_count))))
        (place-kept s.net net more before (delays_to before n) n (slice_index s.places n) (cut.places n l m))
        )
        (λ m. subst (IsPlaceOf before net bound k) (sym (get_or_at s.places place [] 0 k cut.places_count)) (there m));
    passes = λ m each. passes m (each k (omega arith)) (cut.passes m (λ n l. each n (omega (arith, l))));
    narrow = narrow;
  }

  -- bits that are there, and a node of them if it is needed
  pub next-given : (net : Net) (given : List WordBit) → k < length before.nodes → Later s.net net → AreBitsOf before net bound k given
      → All (HasNoWideSum most) net.nodes → (whole : Bool) → (IsMarked (needed before) k → whole ≡ true)
      → IsCut before most (k + 1) (with_given whole given (record s { net = net }))
  next-given net given there later bits narrow false marked =
      next net given 0 (extends-grown s.net net later.grown) later.valid bits (λ m. let e = marked m in absurd (cc))
      (λ m h p. grown-passes s.net net later.grown m p) narrow
  next-given net given there later bits narrow true marked =
      let count = bits-count before valid net bound k given bits in
      let wide : IsWidth (length given) = subst IsWidth (sym count) (are_widths before.nodes valid.nodes k there) in
      let made = with_bits net given in
      let last = bits-later net later.valid given wide bits.there in
      let grown = grown-then s.net net made.net later.grown last.grown in
      let found : slice_index (widths made.net.nodes) made.place ≡ length given = word-found_width net later.valid given bits.there in
      next made.net given made.place (extends-grown s.net made.net grown) last.valid
      (bits-kept net made.net (extends-grown net made.net last.grown) before bound k given bits)
      (
      λ m.
      record {
        there = omega (arith, index_within (widths made.net.nodes) made.place 0 (omega (arith, found, wide.0)), length-widths made.net.nodes);
        words = λ inputs t words.
            word-has_bits net later.valid given bits.there inputs t (words-later s.net net later inputs (words-there inputs words))
            ∙ bits.words inputs t words;
        late = word-found_late net.nodes bound given bits.late;
      }
      )
      (λ m h p. grown-passes s.net made.net grown m p)
      (word-found_narrow net.nodes most narrow given)

  -- a new node that has the word of the old one
  module _ (n : Node) (stands : MayStand (widths s.net.nodes) n) (inner : input_nodes (n ∷ []) ≡ []) (narrow : HasNoWideSum most n)
      (early : node_delays (delays s.net.nodes) n ≤ bound)
      (same : (inputs : Inputs) (t : ℤ) → All (AreWords (input_widths before)) inputs
      → stream_of inputs (streams_on inputs [] s.net.nodes) n t ≡ flow before.nodes inputs k t) where
    abbrev made : Net
    made = with_last s.net n

    abbrev last : ℕ
    last = length s.net.nodes

    made-valid : IsValid made
    made-valid = valid-append s.net n cut.valid stands inner

    made-words : (inputs : Inputs) (t : ℤ) → All (AreWords (input_widths before)) inputs
        → flow made.nodes inputs last t ≡ flow before.nodes inputs k t
    made-words inputs t words = flow-append_last s.net.nodes n inputs t ∙ same inputs t words

    made-late : slice_index (delays made.nodes) last ≤ bound
    made-late = omega (arith, early, delay-append_last s.net.nodes n)

    each-late : (low count : ℕ) → BitsPassAtMost bound made (bits_from last low count)
    each-late low zero = All-nil (λ b. bit_delays (delays made.nodes) b ≤ bound)
    each-late low (suc c) =
        All-cons (λ b. bit_delays (delays made.nodes) b ≤ bound) (Of last (low + c)) (bits_from last low c) made-late (each-late low c)

    pub next-new : (w : ℕ) → node_width (widths s.net.nodes) n ≡ w → IsCut before most (k + 1) (with_new w n s)
    next-new w e =
        let wide : slice_index (widths made.nodes) last ≡ w = width-append_last s.net.nodes n ∙ e in
        next made (bits_from last 0 w) last (extends-last s.net n) made-valid
        record {
          there = bits_from-there (widths made.nodes) last 0 w (omega (arith, wide));
          words = λ inputs t words.
              whole-flow made.nodes inputs t last w (flow-width made made-valid inputs (words-there inputs words) last t ∙ wide)
              ∙ made-words inputs t words;
          late = each-late 0 w;
        }
        (
        λ m. record {
          there = omega (arith, length-append s.net.nodes (n ∷ []));
          words = made-words;
          late = made-late;
        }
        )
        (λ m h p. passes-append m s.net.nodes n p (omega (arith, early, h)))
        (All-append (HasNoWideSum most) s.net.nodes (n ∷ []) cut.narrow
        (All-cons (HasNoWideSum most) n [] narrow (All-nil (HasNoWideSum most))))
