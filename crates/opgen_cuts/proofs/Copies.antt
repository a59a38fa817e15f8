-- A step of the recipe for each sort of node: it can be made, and the state after it is as it should be.
use Rattle.std.proofs.Common.{◌≡◌, ℕ, zero, suc, ◌+◌, ◌^◌, ◌<◌, ◌≤◌, Bool, true, false, List, [], length, drop, Some, refl, sym, ap, ◌∙◌, subst, arith}
use Rattle.std.specs.Prelude.{ℤ, pos, All, IsTrue, option_and_then, slice_get, slice_index, slice_index_or}
use Rattle.std.proofs.Math.Nat.{max-le}
use Rattle.std.proofs.lemmas.List.Elements.{All-append, All-cons, All-nil, All-weaker}
use Rattle.std.proofs.lemmas.Option.{get_or_from_slice_get, same_Some}
use Rattle.opgen_num.specs.declared.format.TheConstants.{MAX_WIDTH}
use Rattle.opgen_num.specs.Words.{nat}
use Rattle.opgen_design.specs.declared.expr.Slice.{Slice}
use Rattle.opgen_design.specs.Run.{AreWords}
use Rattle.opgen_design.specs.Sound.{AllReads, AllOperandsRead}
use Rattle.opgen_design.specs.Tree.{Tree, Trees, name, part, bits, port, inverse, chain, none, more}
use Rattle.opgen_design.specs.Value.{IsWidth, combined, chosen, cut, joined, value, width, width_on, word_at}
use Rattle.opgen_design.proofs.ReadLaws.{reads-weaker}
use Rattle.opgen_design.proofs.WidthLaws.{some_before, value-width, width-is_width}
use Rattle.opgen_net.specs.declared.cell.Class.{Class}
use Rattle.opgen_net.specs.declared.cell.Class.TheVariants as class
use Rattle.opgen_net.specs.declared.net.Net.{Net}
use Rattle.opgen_net.specs.declared.node.Node.{Node}
use Rattle.opgen_net.specs.declared.node.Node.TheVariants.{Input, Constant, Cells, Choice, Table, Delay}
use Rattle.opgen_net.specs.declared.word_bits.WordBit.{WordBit}
use Rattle.opgen_net.specs.declared.word_bits.WordBit.TheVariants.{Of}
use Rattle.opgen_net.specs.Cells.{IsLogic, is_wire}
use Rattle.opgen_net.specs.Delays.{delays_read, operand_delays, delays}
use Rattle.opgen_net.specs.Flow.{Inputs, before, flow}
use Rattle.opgen_net.specs.Grown.{HasGrown}
use Rattle.opgen_net.specs.Valid.{FitsNodes, IsValid, LiesWithin, MayStand, input_widths, slice_width, widths}
use Rattle.opgen_net.specs.WordRule.{IsThere, bits_from, word_flow}
use Rattle.opgen_net.proofs.BitLists.{bits_from-there, length-word_flow, whole-flow}
use Rattle.opgen_net.proofs.FlowLaws.{length-widths}
use Rattle.opgen_net.proofs.FlowWidths.{are_widths, flow-width}
use Rattle.opgen_net.proofs.Grown.{grown-nodes}
use Rattle.opgen_net.proofs.InputLaws.{input-width}
use Rattle.opgen_net.proofs.Later.{later-same}
use Rattle.opgen_pieces.specs.Law.{AppendsNarrow, AreOperands, BitsPassAtMost, IsNarrow, bit_delays}
use Rattle.opgen_pieces.specs.Recipe.{Pieces, operator, with_sum}
use Rattle.opgen_pieces.proofs.Making.{Made}
use Rattle.opgen_pieces.proofs.Whole.{whole-made}
use Rattle.opgen_cuts.specs.declared.cutting.Cutting.{Cutting}
use Rattle.opgen_cuts.specs.Needed.{needed}
use Rattle.opgen_cuts.specs.Recipe.{with_cells, with_copy, with_given, with_new, with_pieces}
use Rattle.opgen_cuts.specs.Renamed.{renamed, renamed_all, renamed_slice}
use Rattle.opgen_cuts.specs.Same.{HasNoWideSum}
use Rattle.opgen_cuts.specs.Stands.{AreBits, CellsFollow, CopyFollows, PiecesFollow}
use Rattle.opgen_cuts.specs.Wires.{bits_at, constant_bits, wire_bits}
use Rattle.opgen_cuts.proofs.Marks.{IsMarked, Needs}
use Rattle.opgen_cuts.proofs.Node.{HasPlace, early-delay, equation, get_width, has_bits, has_places, is_needed, is_there, near, same_width, stands}
use Rattle.opgen_cuts.proofs.Renames.{AnyPort, renamed-logic, renamed-nesting, renamed-value, renamed-width, words_at}
use Rattle.opgen_cuts.proofs.State.{AreBitsOf, IsCut, IsPlaceOf, bits-count, delays_to, extends-same, next, next-given, next-new, place-width, words-there}
use Rattle.opgen_cuts.proofs.Sums.{joined-sum, minus-is, sum_of, sum_tree}
use Rattle.opgen_cuts.proofs.WireBits.{HaveWordOf, constant-flow, constant_bits-all, wire-all, wire-value}

-- an expression over places passes no more delays than these
mutual
  renamed-late : (ds ps : List ℕ) (most : ℕ) (t : Tree) → AllReads (λ j. slice_index ds (slice_index ps j) ≤ most) AnyPort t
      → delays_read ds (renamed ps t) ≤ most
  renamed-late ds ps most (name n) h = h
  renamed-late ds ps most (part n high low) h = h
  renamed-late ds ps most (bits w) h = omega arith
  renamed-late ds ps most (port p) h = omega arith
  renamed-late ds ps most (inverse t) h = renamed-late ds ps most t h
  renamed-late ds ps most (chain op ts) h = operands-late ds ps most ts h

  operands-late : (ds ps : List ℕ) (most : ℕ) (ts : Trees) → AllOperandsRead (λ j. slice_index ds (slice_index ps j) ≤ most) AnyPort ts
      → operand_delays ds (renamed_all ps ts) ≤ most
  operands-late ds ps most none h = omega arith
  operands-late ds ps most (more t ts) h = max-le (renamed-late ds ps most t h.0) (operands-late ds ps most ts h.1)

-- the bits of a node from a place up pass as many delays as the node
from-late : (net : Net) (node low count most : ℕ) → slice_index (delays net.nodes) node ≤ most
    → BitsPassAtMost most net (bits_from node low count)
from-late net node low zero most h = All-nil (λ b. bit_delays (delays net.nodes) b ≤ most)
from-late net node low (suc k) most h =
    All-cons (λ b. bit_delays (delays net.nodes) b ≤ most) (Of node (low + k)) (bits_from node low k) h (from-late net node low k most h)

-- no node is a wide sum, if none was and those behind are none
narrow-grown : (most : ℕ) (old new : Net) → HasGrown old new → AppendsNarrow most old new → All (HasNoWideSum most) old.nodes
    → All (HasNoWideSum most) new.nodes
narrow-grown most old new grown behind narrow =
    let more = drop (length old.nodes) new.nodes in
    subst (All (HasNoWideSum most)) (grown-nodes old new grown)
    (All-append (HasNoWideSum most) old.nodes more narrow (All-weaker (IsNarrow most) (HasNoWideSum most) (narrow-node most) more behind))
  where
    narrow-cells : (most : ℕ) (c : Class) (w : ℕ) (e : Tree) → IsNarrow most (Cells c w e) → HasNoWideSum most (Cells c w e)
    narrow-cells most class.Wire w e h = tt
    narrow-cells most class.Logic w e h = tt
    narrow-cells most class.Add w e h = h
    narrow-cells most class.Choice w e h = tt
    narrow-cells most class.Table w e h = tt
    narrow-cells most class.Register w e h = tt

    narrow-node : (most : ℕ) (n : Node) → IsNarrow most n → HasNoWideSum most n
    narrow-node most (Input place w) h = tt
    narrow-node most (Constant w) h = tt
    narrow-node most (Cells c w e) h = narrow-cells most c w e h
    narrow-node most (Choice on one other) h = tt
    narrow-node most (Table address rows) h = tt
    narrow-node most (Delay of) h = tt

-- the bits of a wire have its value
record AreWireBits (old : Net) (most : ℕ) (s : Cutting) (t : Tree) (width : ℕ) : Type 0 where
  there : All (IsThere (widths s.net.nodes)) (wire_bits s.bits t)
  late : BitsPassAtMost most s.net (wire_bits s.bits t)
  words :
      (inputs : Inputs) (u : ℤ) → All (AreWords (input_widths old)) inputs
      → word_flow s.net.nodes inputs (wire_bits s.bits t) u ≡ value (words_at (λ n. flow old.nodes inputs n u)) t
  count : length (wire_bits s.bits t) ≡ width

module _ (old : Net) (valid : IsValid old) (most k : ℕ) (s : Cutting) (state : IsCut old most k s) where
  abbrev now : List ℕ
  now = widths s.net.nodes

  abbrev was : List ℕ
  was = widths old.nodes

  abbrev Next : Cutting → Type 0
  Next = IsCut old most (k + 1)

  -- the pieces of a sum, and a node of their bits
  abbrev of_sum : (whole minus : Bool) → (a b : Tree) → Cutting
  of_sum whole minus a b =
      let made = with_sum most minus (wire_bits s.bits a) (wire_bits s.bits b) s.net in
      with_given whole made.bits (record s { net = made.net })

  -- a node of its bits is made if it is marked
  abbrev IsMark : Bool → Type 0
  IsMark whole = IsMarked (needed old) k → whole ≡ true

  input-next : (place w : ℕ) → slice_get old.nodes k ≡ Some (Input place w) → Next (with_copy most false (Input place w) s)
  input-next place w at =
      let p = state.ports place w (input-width old valid k place w at) in
      let same = equation old valid most k s state (Input place w) at in
      next old valid most k s state s.net (bits_from place 0 w) place (extends-same s.net) state.valid
      record {
        there = bits_from-there now place 0 w (omega (arith, p.wide));
        words = λ inputs t words.
            whole-flow s.net.nodes inputs t place w
            (flow-width s.net state.valid inputs (words-there old valid most k s state inputs words) place t ∙ p.wide)
            ∙ p.words inputs t
            ∙ sym (same inputs t);
        late = from-late s.net place 0 w (delays_to old k) (omega (arith, p.late));
      }
      (λ m. record { there = p.there; words = λ inputs t words. p.words inputs t ∙ sym (same inputs t); late = omega (arith, p.late) })
      (λ m h p. p) state.narrow

  constant-next : (w : List Bool) (whole : Bool) → IsMark whole → slice_get old.nodes k ≡ Some (Constant w)
      → Next (with_copy most whole (Constant w) s)
  constant-next w whole mark at =
      next-given old valid most k s state s.net (constant_bits w) (is_there old valid most k s state (Constant w) at)
      (later-same s.net state.valid)
      record {
        there = constant_bits-all (IsThere now) tt tt w;
        words = λ inputs t words. constant-flow s.net.nodes inputs t w ∙ sym (equation old valid most k s state (Constant w) at inputs t);
        late = constant_bits-all (λ b. bit_delays (delays s.net.nodes) b ≤ delays_to old k) (omega arith) (omega arith) w;
      }
      state.narrow whole mark

  -- cells

  module _ (c : Class) (w : ℕ) (e : Tree) (at : slice_get old.nodes k ≡ Some (Cells c w e)) where
    abbrev cells : Node
    cells = Cells c w e

    fits : FitsNodes was w e
    fits = (stands old valid most k s state cells at).1

    -- a wire in it, each of whose reads has its bits
    abbrev BitsOf : ℕ → Type 0
    BitsOf j = AreBitsOf old s.net (delays_to old k) j (bits_at s.bits j)

    of-wire : (t : Tree) (v : ℕ) → IsTrue (is_wire t) → width was [] t ≡ Some v → AllReads BitsOf AnyPort t
        → AreWireBits old (delays_to old k) s t v
    of-wire t v wire has reads =
        let none_in : All (AreWords (input_widths old)) [] = All-nil (AreWords (input_widths old)) in
        let P : WordBit → Type 0 = λ b. bit_delays (delays s.net.nodes) b ≤ delays_to old k in
        let words : (inputs : Inputs) (u : ℤ) → All (AreWords (input_widths old)) inputs
        → word_flow s.net.nodes inputs (wire_bits s.bits t) u ≡ value (words_at (λ n. flow old.nodes inputs n u)) t =
        λ inputs u given.
        wire-value s.net.nodes inputs u s.bits was (λ n. flow old.nodes inputs n u) t v wire
        (reads-weaker BitsOf AnyPort (HaveWordOf s.net.nodes inputs u s.bits was (λ n. flow old.nodes inputs n u)) AnyPort
        (λ j h. (h.words inputs u given, bits-count old valid s.net (delays_to old k) j (bits_at s.bits j) h)) (λ p q. q) t reads)
        has in
        record {
          there = wire-all (IsThere now) tt tt s.bits t
              (reads-weaker BitsOf AnyPort (λ j. All (IsThere now) (bits_at s.bits j)) AnyPort (λ j h. h.there) (λ p q. q) t reads);
          late = wire-all P (omega arith) (omega arith) s.bits t
              (reads-weaker BitsOf AnyPort (λ j. All P (bits_at s.bits j)) AnyPort (λ j h. h.late) (λ p q. q) t reads);
          words = words;
          count = sym (length-word_flow s.net.nodes [] (pos 0) (wire_bits s.bits t))
              ∙ ap length (words [] (pos 0) none_in)
              ∙ value-width was [] (words_at (λ n. flow old.nodes [] n (pos 0)))
              (λ n u h. flow-width old valid [] none_in n (pos 0) ∙ get_or_from_slice_get was n u 0 h) (λ n u h. absurd (cc)) t v has;
        }

    all-bits : AllReads BitsOf AnyPort e
    all-bits = has_bits old valid most k s state cells at

    whole-wire : IsTrue (is_wire e) → AreWireBits old (delays_to old k) s e w
    whole-wire wire = of-wire e w wire fits.has_width all-bits

    pub wire-follows : IsTrue (is_wire e) → AreBits s.net (wire_bits s.bits e)
    wire-follows wire =
        let b = whole-wire wire in
        record { width = subst IsWidth (sym b.count) (width-is_width was [] e w fits.has_width); there = b.there }

    pub wire-next : IsTrue (is_wire e) → (whole : Bool) → IsMark whole → Next (with_given whole (wire_bits s.bits e) s)
    wire-next wire whole mark =
        let b = whole-wire wire in
        next-given old valid most k s state s.net (wire_bits s.bits e) (is_there old valid most k s state cells at)
        (later-same s.net state.valid)
        record {
          there = b.there;
          words = λ inputs t words. b.words inputs t words ∙ sym (equation old valid most k s state cells at inputs t);
          late = b.late;
        }
        state.narrow whole mark

    -- a sum of two wires
    module _ (minus : Bool) (a b : Tree) (is : e ≡ sum_tree minus a b) (a_wire : IsTrue (is_wire a)) (b_wire : IsTrue (is_wire b)) where
      abbrev first : List WordBit
      first = wire_bits s.bits a

      abbrev second : List WordBit
      second = wire_bits s.bits b

      sum-width : width was [] (sum_tree minus a b) ≡ Some w
      sum-width = ap (width was []) (sym is) ∙ fits.has_width

      operand-widths : (width was [] a ≡ Some w) × (width was [] b ≡ Some w)
      operand-widths =
          let x = some_before (width was [] a) (λ v. width_on was [] (operator minus) v (more b none)) w sum-width in
          let y = some_before (width was [] b)
          (λ v. option_and_then (λ u. width_on was [] (operator minus) u none) (joined (operator minus) x.0 v)) w x.2 in
          let z = some_before (joined (operator minus) x.0 y.0) (λ u. width_on was [] (operator minus) u none) w y.2 in
          let same : z.0 ≡ w = same_Some z.0 w z.2 in
          let both = joined-sum minus x.0 y.0 z.0 z.1 in
          (x.1 ∙ ap Some (both.1 ∙ same), y.1 ∙ ap Some (sym both.0 ∙ both.1 ∙ same))

      sum-reads : AllReads BitsOf AnyPort (sum_tree minus a b)
      sum-reads = subst (AllReads BitsOf AnyPort) is all-bits

      of-first : AreWireBits old (delays_to old k) s a w
      of-first = of-wire a w a_wire operand-widths.0 sum-reads.0

      of-second : AreWireBits old (delays_to old k) s b w
      of-second = of-wire b w b_wire operand-widths.1 sum-reads.1.0

      pub operands-follow : AreOperands s.net first second
      operands-follow = record {
        width = subst IsWidth (sym of-first.count) (width-is_width was [] e w fits.has_width);
        alike = of-second.count ∙ sym of-first.count;
        first_there = of-first.there;
        second_there = of-second.there;
      }

      module _ (least : 4 ≤ most) (few : most ≤ MAX_WIDTH) where
        abbrev sum : Pieces
        sum = with_sum most minus first second s.net

        sum-made : Made most minus first second s.net sum
        sum-made = whole-made most minus first second s.net least few state.valid operands-follow

        pub sum-next : (whole : Bool) → IsMark whole → Next (with_given whole sum.bits (record s { net = sum.net }))
        sum-next whole mark =
            next-given old valid most k s state sum.net sum.bits (is_there old valid most k s state cells at) sum-made.later
            record {
              there = sum-made.there;
              words = λ inputs t words.
                  sum-made.sum inputs t (words-there old valid most k s state inputs words)
                  ∙ ap (λ v. combined (operator minus) v (word_flow s.net.nodes inputs second t)) (of-first.words inputs t words)
                  ∙ ap (combined (operator minus) (value (words_at (λ n. flow old.nodes inputs n t)) a)) (of-second.words inputs t words)
                  ∙ ap (value (words_at (λ n. flow old.nodes inputs n t))) (sym is)
                  ∙ sym (equation old valid most k s state cells at inputs t);
              late = sum-made.passes.bits (delays_to old k) of-first.late of-second.late;
            }
            (narrow-grown most s.net sum.net sum-made.later.grown sum-made.narrow state.narrow) whole mark

    -- logic: what it reads has its place
    abbrev PlaceOf : ℕ → Type 0
    PlaceOf j = IsPlaceOf old s.net (delays_to old k) j (slice_index s.places j)

    module _ (logic : IsLogic was e) (places : AllReads PlaceOf AnyPort e) where
      pub logic-follows : MayStand now (Cells class.Logic w (renamed s.places e))
      logic-follows = (
        renamed-logic s.places now was e
            (reads-weaker PlaceOf AnyPort (λ j. slice_index now (slice_index s.places j) ≡ slice_index was j) AnyPort
            (λ j p. same_width old valid most k s state cells at j p) (λ p q. q) e places)
            logic,
        record {
          has_width = renamed-width s.places now was e w
              (reads-weaker PlaceOf AnyPort (λ j. (v : ℕ) → slice_get was j ≡ Some v → slice_get now (slice_index s.places j) ≡ Some v) AnyPort
              (λ j p v h. get_width old valid most k s state cells at j v p h) (λ p q. q) e places)
              fits.has_width;
          nests = omega (arith, renamed-nesting s.places e, fits.nests);
        },
      )

      pub logic-next : Next (with_new w (Cells class.Logic w (renamed s.places e)) s)
      logic-next =
          next-new old valid most k s state (Cells class.Logic w (renamed s.places e)) logic-follows refl tt
          (renamed-late (delays s.net.nodes) s.places (delays_to old k) e
          (reads-weaker PlaceOf AnyPort (λ j. slice_index (delays s.net.nodes) (slice_index s.places j) ≤ delays_to old k) AnyPort
          (λ j p. p.late) (λ p q. q) e places))
          (
          λ inputs t words.
          renamed-value s.places (λ n. flow s.net.nodes inputs n t) (λ n. flow old.nodes inputs n t) e
          (reads-weaker PlaceOf AnyPort (λ j. flow s.net.nodes inputs (slice_index s.places j) t ≡ flow old.nodes inputs j t) AnyPort
          (λ j p. p.words inputs t words) (λ p q. q) e places)
          ∙ sym (equation old valid most k s state cells at inputs t)
          )
          w refl

  -- choices

  module _ (on : ℕ) (one other : Slice) (at : slice_get old.nodes k ≡ Some (Choice on one other)) where
    abbrev choice : Node
    choice = Choice on one other

    abbrev moved : Node
    moved = Choice (slice_index s.places on) (renamed_slice s.places one) (renamed_slice s.places other)

    has : Needs (HasPlace old valid most k s state choice at) choice
    has = has_places old valid most k s state choice at

    same : (j : ℕ) → IsPlaceOf old s.net (delays_to old k) j (slice_index s.places j) → slice_index now (slice_index s.places j) ≡ slice_index was j
    same j p = same_width old valid most k s state choice at j p

    lies : (from : Slice) → LiesWithin was from → IsPlaceOf old s.net (delays_to old k) from.node (slice_index s.places from.node)
        → LiesWithin now (renamed_slice s.places from)
    lies from h p = (h.0, omega (arith, h.1, same from.node p))

    pub choice-follows : MayStand now moved
    choice-follows =
        let f = stands old valid most k s state choice at in
        record {
          one_bit = same on has.0 ∙ f.one_bit;
          one_lies = lies one f.one_lies has.1;
          other_lies = lies other f.other_lies has.2;
          same_width = f.same_width;
        }

    pub choice-next : Next (with_new (slice_width one) moved s)
    choice-next =
        next-new old valid most k s state moved choice-follows refl tt (max-le has.0.late (max-le has.1.late has.2.late))
        (
        λ inputs t words.
        let new = flow s.net.nodes inputs in
        let first = cut one.high one.low in
        let second = cut other.high other.low in
        ap (λ v. chosen v (first (new (slice_index s.places one.node) t)) (second (new (slice_index s.places other.node) t)))
        (has.0.words inputs t words)
        ∙ ap (λ v. chosen (flow old.nodes inputs on t) (first v) (second (new (slice_index s.places other.node) t)))
        (has.1.words inputs t words)
        ∙ ap (λ v. chosen (flow old.nodes inputs on t) (first (flow old.nodes inputs one.node t)) (second v)) (has.2.words inputs t words)
        ∙ sym (equation old valid most k s state choice at inputs t)
        )
        (slice_width one) refl

  -- tables

  module _ (address : ℕ) (rows : List (List Bool)) (at : slice_get old.nodes k ≡ Some (Table address rows)) where
    abbrev table : Node
    table = Table address rows

    table-has : IsPlaceOf old s.net (delays_to old k) address (slice_index s.places address)
    table-has = has_places old valid most k s state table at

    pub table-follows : MayStand now (Table (slice_index s.places address) rows)
    table-follows =
        let f = stands old valid most k s state table at in
        let e : slice_index was address ≡ slice_index now (slice_index s.places address) =
        sym (same_width old valid most k s state table at address table-has) in
        record {
          address_width = (omega (arith, f.address_width.0, e), omega (arith, f.address_width.1, e));
          row_for_each = f.row_for_each ∙ ap (λ a. 2 ^ a) e;
          row_width = f.row_width;
          same_width = f.same_width;
        }

    pub table-next : Next (with_new (length (slice_index_or rows 0 [])) (Table (slice_index s.places address) rows) s)
    table-next =
        next-new old valid most k s state (Table (slice_index s.places address) rows) table-follows refl tt table-has.late
        (λ inputs t words. ap (λ v. word_at rows (nat v)) (table-has.words inputs t words) ∙ sym (equation old valid most k s state table at inputs t))
        (length (slice_index_or rows 0 [])) refl

  -- delays

  module _ (of : ℕ) (at : slice_get old.nodes k ≡ Some (Delay of)) where
    abbrev delay : Node
    delay = Delay of

    of-near : of < k
    of-near = near old valid most k s state delay at

    of-place : IsPlaceOf old s.net (delays_to old of) of (slice_index s.places of)
    of-place = state.places of of-near (is_needed old valid most k s state delay at).1

    of-width : slice_index now (slice_index s.places of) ≡ slice_index was of
    of-width = place-width old valid s.net (delays_to old of) of state.valid (slice_index s.places of) of-place

    of-count : length (bits_at s.bits of) ≡ slice_index was of
    of-count = bits-count old valid s.net (delays_to old of) of (bits_at s.bits of) (state.bits of of-near)

    pub delay-follows : MayStand now (Delay (slice_index s.places of)) × IsWidth (length (bits_at s.bits of))
    delay-follows = (
      omega (arith, of-place.there, length-widths s.net.nodes),
      subst IsWidth (sym of-count) (are_widths old.nodes valid.nodes of (omega (arith, of-near, is_there old valid most k s state delay at))),
    )

    pub delay-next : Next (with_new (length (bits_at s.bits of)) (Delay (slice_index s.places of)) s)
    delay-next =
        next-new old valid most k s state (Delay (slice_index s.places of)) delay-follows.0 refl tt
        (omega (arith, of-place.late, early-delay old valid most k s state delay at of refl))
        (λ inputs t words. of-place.words inputs (before t) words ∙ sym (equation old valid most k s state delay at inputs t))
        (length (bits_at s.bits of)) (of-width ∙ sym of-count)

  -- any node

  cells-next : (least : 4 ≤ most) (few : most ≤ MAX_WIDTH) (whole : Bool) → IsMark whole → (c : Class) (w : ℕ) (e : Tree)
      → slice_get old.nodes k ≡ Some (Cells c w e) → CellsFollow s c w e × Next (with_cells most whole c w e s)
  cells-next least few whole mark class.Wire w e at =
      let wire = (stands old valid most k s state (Cells class.Wire w e) at).0 in
      (wire-follows class.Wire w e at wire, wire-next class.Wire w e at wire whole mark)
  cells-next least few whole mark class.Logic w e at =
      let logic = (stands old valid most k s state (Cells class.Logic w e) at).0 in
      let places = has_places old valid most k s state (Cells class.Logic w e) at in
      (logic-follows class.Logic w e at logic places, logic-next class.Logic w e at logic places)
  cells-next least few whole mark class.Add w e at =
      let f = sum_of e (stands old valid most k s state (Cells class.Add w e) at).0 in
      let follow = operands-follow class.Add w e at f.minus f.a f.b f.is f.a_wire f.b_wire in
      let made = sum-next class.Add w e at f.minus f.a f.b f.is f.a_wire f.b_wire least few whole mark in
      subst (λ x. PiecesFollow s x × Next (with_pieces most whole x s)) (sym f.is)
      (follow, subst (λ m. Next (of_sum whole m f.a f.b)) (sym (minus-is f.minus)) made)
  cells-next least few whole mark class.Choice w e at = absurd (stands old valid most k s state (Cells class.Choice w e) at).0
  cells-next least few whole mark class.Table w e at = absurd (stands old valid most k s state (Cells class.Table w e) at).0
  cells-next least few whole mark class.Register w e at = absurd (stands old valid most k s state (Cells class.Register w e) at).0

  pub copy-next : (least : 4 ≤ most) (few : most ≤ MAX_WIDTH) (whole : Bool) → IsMark whole → (n : Node) → slice_get old.nodes k ≡ Some n
      → CopyFollows s n × Next (with_copy most whole n s)
  copy-next least few whole mark (Input place w) at = (stands old valid most k s state (Input place w) at, input-next place w at)
  copy-next least few whole mark (Constant w) at =
      (stands old valid most k s state (Constant w) at, constant-next w whole mark at)
  copy-next least few whole mark (Cells c w e) at = cells-next least few whole mark c w e at
  copy-next least few whole mark (Choice on one other) at = (choice-follows on one other at, choice-next on one other at)
  copy-next least few whole mark (Table address rows) at = (table-follows address rows at, table-next address rows at)
  copy-next least few whole mark (Delay of) at = (delay-follows of at, delay-next of at)
