-- The whole net of an accepted filter, by a graph that serves its taps.
use Rattle.std.proofs.Common.{◌≡◌, ℕ, zero, suc, ◌+◌, ◌-◌, ◌*◌, ◌^◌, ◌<◌, ◌≤◌, Bool, true, false, List, [], ◌∷◌, ◌++◌, length, map, take, drop, refl, sym, ap, ◌∙◌, subst, arith, codes}
use Rattle.std.specs.Int.{int_div_euclid}
use Rattle.std.specs.Prelude.{ℤ, pos, neg_ℤ, ◌+ℤ◌, ◌-ℤ◌, ◌*ℤ◌, ◌≤ℤ◌, unsigned_abs, All, Contains, if◌then◌else◌, negsuc}
use Rattle.std.proofs.Math.Nat.{mul-le-mul_left}
use Rattle.std.proofs.Math.Seq.{take-length}
use Rattle.std.proofs.lemmas.Int.{ints}
use Rattle.std.proofs.lemmas.Nat.{pow_pos}
use Rattle.std.proofs.lemmas.List.Elements.{All-nil, All-weaker, All-contains_itself}
use Rattle.opgen_num.specs.Floors.{IsFloor}
use Rattle.opgen_num.specs.Formats.{Holds, range_width}
use Rattle.opgen_num.specs.Rounding.{IsGoodLinear}
use Rattle.opgen_num.specs.Words.{val, word, nat}
use Rattle.opgen_num.proofs.Rounded.{floor_is}
use Rattle.opgen_design.specs.Run.{AreWords}
use Rattle.opgen_design.specs.Value.{cut}
use Rattle.opgen_net.specs.declared.net.Net.{Net}
use Rattle.opgen_net.specs.declared.net.Output.{Output}
use Rattle.opgen_net.specs.declared.node.Node.TheVariants.{Constant}
use Rattle.opgen_net.specs.Delays.{delay_count}
use Rattle.opgen_net.specs.Flow.{Inputs, flow, slice_flow}
use Rattle.opgen_net.specs.Placed.{Placed}
use Rattle.opgen_net.specs.Valid.{IsValid, LiesWithin, input_widths, slice_width, widths}
use Rattle.opgen_net.proofs.Appending.{flow-append_last, valid-output, width-append_last}
use Rattle.opgen_net.proofs.Delays.{passes-count}
use Rattle.opgen_net.proofs.Later.{Later, later-node, later-same, later-then, node_there}
use Rattle.opgen_kinds.specs.declared.taps.Taps.{Taps}
use Rattle.opgen_kinds.specs.Sum.{sum_shift}
use Rattle.opgen_kinds.specs.Taps.{IsAcceptedTaps, direct, taps_format, exact_taps, IsTaps}
use Rattle.opgen_kinds.proofs.of_kind.Sum.{sums_held}
use Rattle.opgen_kinds.proofs.of_kind.Taps.{direct_sum}
use Rattle.opgen_operator.specs.declared.operator.Operator.TheVariants.{Tfir}
use Rattle.opgen_operator.specs.Fits.{FitsOperator, FitsInEachMode}
use Rattle.opgen_operator.specs.Operator.{operator_outputs}
use Rattle.opgen_operator.specs.Outputs.{output_words}
use Rattle.opgen_operator.specs.Valid.{IsModeOf}
use Rattle.opgen_operator.proofs.Accepted.{accepted_ranges}
use Rattle.opgen_ports.specs.Good.{IsGoodRatio}
use Rattle.opgen_ports.specs.OddParts.{odd_part}
use Rattle.opgen_ports.specs.Reaches.{reach_of, reach_over, rises, falls, above_zero, below_zero, in_units, in_places, up, down}
use Rattle.opgen_ports.specs.Ports.{Recent, weighted}
use Rattle.opgen_ports.specs.Spans.{IsOf}
use Rattle.opgen_ports.proofs.Reached.{rises-cons, falls-cons, ceiling}
use Rattle.opgen_ports.specs.Modes.{mode_of_exact}
use Rattle.opgen_operator.proofs.EachMode.{fits_each_mode}
use Rattle.opgen_ports.proofs.Widths.{some_width}
use Rattle.opgen_graph.specs.declared.ranks.Graph.{Graph}
use Rattle.opgen_graph.specs.Parts.{parts_of}
use Rattle.opgen_graph.specs.Placing.{factors, AreAdders, IsNode, IsPart, HasOddPart, IsMultiple}
use Rattle.opgen_graph.specs.Recipe.{Multiples, with_input, multiples_of}
use Rattle.opgen_graph.specs.Residues.{IsResidue}
use Rattle.opgen_graph.specs.Served.{Serves}
use Rattle.opgen_graph.proofs.Kept.{Keeps, keeps-later, keeps-then, words-back, words-kept}
use Rattle.opgen_graph.proofs.Members.{all_of}
use Rattle.opgen_graph.proofs.PartLists.{part-within, part-listed, listed-part, odd_itself}
use Rattle.opgen_graph.proofs.PartNodes.{all-made}
use Rattle.opgen_graph.proofs.Products.{Ready, ready_nodes, zeros-has}
use Rattle.opgen_graph.proofs.Residues.{Has, floor-has, settled}
use Rattle.opgen_graph.proofs.ServedNets as served
use Rattle.opgen_graph.proofs.Sums.{IsPlacedNode}
use Rattle.opgen_tfir.specs.declared.products.Products.{Products}
use Rattle.opgen_tfir.specs.Recipe.{all_zero, low_bits, half_unit, own_format, sum_width, with_multiples, products_of, sum_from, whole_sum, with_result, zero_sum, net_of_taps}
use Rattle.opgen_tfir.specs.Steps.{HasProducts, AreTaps}
use Rattle.opgen_tfir.specs.Sums.{recent, HasSums}
use Rattle.opgen_tfir.proofs.Chains.{IsChainNode, width-at, taps-delays, taps-keep, taps-placed, widened-placed}
use Rattle.opgen_tfir.proofs.Floors.{IsMultipleOf, floor-good, sum-whole}
use Rattle.opgen_tfir.proofs.Steps.{taps-drop}
use Rattle.opgen_tfir.proofs.Values.{input-held, taps-has, widened-has}
use Rattle.opgen_tfir.proofs.Widths.{of_width, whole-holds, half-within, widths-are}
use Rattle.opgen_tfir.proofs.Zeros.{all-zeros, zeros-weighted, drop-some}

-- ---- good outputs, by a floor

-- the exact value over one unit
module _ (f : Taps) (accepted : IsAcceptedTaps f) where
  pub not-up : sum_shift (direct f) ≤ℤ pos 0
  not-up = go accepted
    where
      go : IsAcceptedTaps f → sum_shift (direct f) ≤ℤ pos 0
      go (version, by) = by.fine.1

  one-up : (s : ℤ) → s ≤ℤ pos 0 → up s ≡ 1
  one-up (pos zero) h = omega arith
  one-up (pos (suc n)) h = absurd (omega (arith, ints, h))
  one-up (negsuc n) h = omega arith

  good-ratio : (exact : Bool) (x : Recent) (q : ℤ) → IsGoodLinear (weighted f.taps x) (pos (2 ^ low_bits f)) q (mode_of_exact exact)
      → IsGoodRatio (mode_of_exact exact) (exact_taps f x) q
  good-ratio exact x q good =
      let top : weighted f.taps x ≡ weighted f.taps x *ℤ pos (up (sum_shift (direct f))) =
      omega (arith, ints, ap (λ n. weighted f.taps x *ℤ pos n) (one-up (sum_shift (direct f)) not-up)) in
      let bottom : pos (2 ^ low_bits f) ≡ pos 1 *ℤ pos (down (sum_shift (direct f))) = omega (arith, ints) in
      subst (λ n. IsGoodLinear n (pos 1 *ℤ pos (down (sum_shift (direct f)))) q (mode_of_exact exact)) top
      (subst (λ d. IsGoodLinear (weighted f.taps x) d q (mode_of_exact exact)) bottom good)

  -- an accepted mode asks for exact outputs only where the sum is whole
  asked-whole : (exact : Bool) → IsModeOf (mode_of_exact exact) (Tfir f) → (x : Recent) → exact ≡ true → IsMultipleOf (2 ^ low_bits f) (weighted f.taps x)
  asked-whole true mode x e = sum-whole (sum_shift (direct f)) f.taps x not-up (mode.whole refl)
  asked-whole false mode x e = absurd (cc)

  pub good-floor : (exact : Bool) → IsModeOf (mode_of_exact exact) (Tfir f) → (x : Recent) (q : ℤ)
      → IsFloor (weighted f.taps x +ℤ pos (half_unit (low_bits f))) (pos (2 ^ low_bits f)) q → IsGoodRatio (mode_of_exact exact) (exact_taps f x) q
  good-floor exact mode x q floor =
      good-ratio exact x q
      (floor-good (weighted f.taps x) q (2 ^ low_bits f) (half_unit (low_bits f)) (pow_pos (low_bits f)) (half-within (low_bits f)) floor
      exact (asked-whole exact mode x))

  -- and it is a number of the output's format
  pub held-floor : IsTaps f → (x : Recent) → ((ago : ℕ) → IsOf f.input (x ago)) → (q : ℤ)
      → IsFloor (weighted f.taps x +ℤ pos (half_unit (low_bits f))) (pos (2 ^ low_bits f)) q → IsOf (taps_format f) q
  held-floor ranges x of q floor =
      sums_held (direct f) (direct_sum f ranges) x of q
      (good-ratio false x q
      (floor-good (weighted f.taps x) q (2 ^ low_bits f) (half_unit (low_bits f)) (pow_pos (low_bits f)) (half-within (low_bits f)) floor
      false (λ e. absurd (cc))))

-- ---- taps that are all 0

zero-reach : (ts : List ℤ) → All (λ t. t ≡ pos 0) ts → (rises ts ≡ 0) × (falls ts ≡ 0)
zero-reach [] h = (refl, refl)
zero-reach (t ∷ ts) h =
    let rest = zero-reach ts (λ k d l. h (suc k) d (omega (arith, l))) in
    let first : t ≡ pos 0 = h 0 (pos 0) (omega arith) in
    let above : above_zero t ≡ 0 = ap above_zero first in
    let below : below_zero t ≡ 0 = ap below_zero first in
    (omega (arith, rises-cons t ts, rest.0, above), omega (arith, falls-cons t ts, rest.1, below))

nothing-over : (d q : ℕ) → 0 < d → d * q < 0 + d → q ≡ 0
nothing-over d zero some close = refl
nothing-over d (suc q) some close =
    let least : d * 1 ≤ d * suc q = mul-le-mul_left d (omega arith) in absurd (omega (arith, least, close))

zero-units : (s : ℤ) → s ≤ℤ pos 0 → in_units 0 s (pos 1) ≡ 0
zero-units (pos zero) h =
    let (_, close) = ceiling (0 * 1) 1 (omega arith) in nothing-over 1 (in_units 0 (pos 0) (pos 1)) (omega arith) (omega (arith, close))
zero-units (pos (suc k)) h = absurd (omega (arith, ints, h))
zero-units (negsuc k) h =
    let d = 1 * 2 ^ (k + 1) in
    let some : 0 < d = omega (arith, pow_pos (k + 1)) in
    let (_, close) = ceiling (0 * 1) d some in nothing-over d (in_units 0 (negsuc k) (pos 1)) some (omega (arith, close))

module _ (f : Taps) (accepted : IsAcceptedTaps f) (e : all_zero f.taps ≡ true) where
  zero-ranges : IsTaps f
  zero-ranges = accepted_ranges (Tfir f) accepted

  -- their output has one bit
  zero-width : (taps_format f).width ≡ 1
  zero-width =
      let none = zero-reach f.taps (all-zeros f.taps e) in
      let reach = reach_over f.input f.taps in
      let of = reach_of f.input in
      let s = sum_shift (direct f) in
      let below : reach.below ≡ 0 =
      ap (λ n. n * of.below + falls f.taps * of.above) none.0 ∙ ap (λ n. 0 * of.below + n * of.above) none.1 ∙ omega arith in
      let above : reach.above ≡ 0 =
      ap (λ n. n * of.above + falls f.taps * of.below) none.0 ∙ ap (λ n. 0 * of.above + n * of.below) none.1 ∙ omega arith in
      let low : in_units reach.below s (pos 1) ≡ 0 = ap (λ n. in_units n s (pos 1)) below ∙ zero-units s (not-up f accepted) in
      let high : in_units reach.above s (pos 1) ≡ 0 = ap (λ n. in_units n s (pos 1)) above ∙ zero-units s (not-up f accepted) in
      ap (λ n. range_width (neg_ℤ (pos n)) (pos (in_units reach.above s (pos 1)))) low ∙ ap (λ n. range_width (pos 0) (pos n)) high

  abbrev zeros : Placed
  zeros = zero_sum f.input

  abbrev zero-output : Output
  zero-output = record { name = codes "y"; from = record { node = zeros.place; high = 0 + 1 - 1; low = 0 } }

  abbrev zero-net : Net
  zero-net = with_result 0 1 zeros

  zero-valid : IsValid (with_input f.input)
  zero-valid = served.input-valid f.input zero-ranges.input

  zero-later : Later (with_input f.input) zeros.net
  zero-later = later-node (with_input f.input) (Constant (word 1 0)) zero-valid (omega arith, omega arith) refl

  zero-floor : (x : Recent) → IsFloor (weighted f.taps x +ℤ pos (half_unit (low_bits f))) (pos (2 ^ low_bits f)) (pos 0)
  zero-floor x =
      let none = zeros-weighted f.taps 0 x e in
      let half = half-within (low_bits f) in
      let times : pos (2 ^ low_bits f) *ℤ (pos 0 +ℤ pos 1) ≡ pos (2 ^ low_bits f) = omega (arith, ints) in
      (omega (arith, ints, none), omega (arith, ints, none, half, times))

  zero-value : (inputs : Inputs) (t : ℤ) → All (AreWords (input_widths zero-net)) inputs
      → val (slice_flow zero-net.nodes inputs zero-output.from t) (taps_format f) ≡ pos 0
  zero-value inputs t words =
      let x = recent f.input inputs t in
      let held = held-floor f accepted zero-ranges x
      (λ ago. input-held f.input zero-ranges.input (with_input f.input) (later-same (with_input f.input) zero-valid) inputs words (t -ℤ pos ago))
      (pos 0) (zero-floor x) in
      let is : slice_flow zero-net.nodes inputs zero-output.from t ≡ word 1 0 =
      ap (cut 0 0) (flow-append_last (with_input f.input).nodes (Constant (word 1 0)) inputs t) in
      ap (λ w. val w (taps_format f)) is
      ∙ settled (taps_format f) 1 (word 1 0) (pos 0) (omega arith) (zeros-has 1)
      (subst (λ n. Holds (taps_format f).signed n (pos 0)) zero-width held)

  pub zero-fits : (exact : Bool) → IsModeOf (mode_of_exact exact) (Tfir f) → FitsOperator (mode_of_exact exact) (Tfir f) zero-net
  zero-fits exact mode = record {
    valid = valid-output zeros.net zero-output zero-later.valid
        (omega arith, omega (arith, width-append_last (with_input f.input).nodes (Constant (word 1 0))));
    inputs = refl;
    outputs = ap (λ n. (codes "y", n) ∷ []) (sym zero-width);
    delays = passes-count (length f.taps - 1) zero-net.nodes (omega arith);
    good = λ inputs t words within range.
        subst (IsGoodRatio (mode_of_exact exact) (exact_taps f (recent f.input inputs (pos t)))) (sym (zero-value inputs (pos t) words))
        (good-floor f accepted exact mode (recent f.input inputs (pos t)) (pos 0) (zero-floor (recent f.input inputs (pos t))));
  }

-- ---- the nodes

module _ (f : Taps) (accepted : IsAcceptedTaps f) (graph : Graph) (serves : Serves f.taps graph) where
  pub ranges : IsTaps f
  ranges = accepted_ranges (Tfir f) accepted

  pub are_adders : AreAdders f.input graph.adders
  are_adders = served.are_adders f.input ranges.input f.taps ranges.taps graph serves

  abbrev pub by_graph : Multiples
  by_graph = multiples_of f.input graph

  part-is : (x : ℕ) → Contains (parts_of f.taps) x → IsPart by_graph.known x
  part-is x c =
      let (t, in_taps, is) = listed-part f.taps x c in
      let within = part-within f.taps ranges.taps x (t, in_taps, is) in
      let part : odd_part (unsigned_abs t) ≡ odd_part x = is.part ∙ sym (odd_itself x within.0 (omega (arith, within.2))) in
      record {
        some = within.1;
        small = within.2;
        made = subst (Contains (factors by_graph.known)) part
            (served.has_part f.input ranges.input f.taps ranges.taps graph serves t in_taps is.some);
      }

  pub all-parts : All (IsPart by_graph.known) (parts_of f.taps)
  all-parts = all_of (IsPart by_graph.known) (parts_of f.taps) part-is

  abbrev pub made : Multiples
  made = with_multiples f graph

  abbrev pub p : Products
  p = products_of f graph

  -- the nodes of the odd parts
  pub record IsStart (m : Multiples) : Type 0 where
    pub later : Later (with_input f.input) m.net
    pub ready : Ready f.input m
    pub taps : All (HasOddPart m.known) f.taps

  pub start : IsStart made
  start =
      let before : Multiples = record { net = by_graph.net; known = [] } in
      let is = all-made f.input ranges.input by_graph.known before (parts_of f.taps)
      (served.ready f.input ranges.input f.taps ranges.taps graph serves) (All-nil (IsMultiple f.input by_graph.net)) all-parts in
      record {
        later = later-then (with_input f.input) by_graph.net made.net
            (served.stands f.input ranges.input f.taps ranges.taps graph serves).later is.later;
        ready = record { valid = is.ready.valid; has_input = is.ready.has_input; each = is.each };
        taps = All-weaker (Contains f.taps) (HasOddPart made.known)
            (λ t c some. subst (λ fs. Contains fs (odd_part (unsigned_abs t))) (sym is.factors_are)
            (part-listed f.taps (odd_part (unsigned_abs t)) (t, c, record { some = some; part = refl })))
            f.taps (All-contains_itself f.taps);
      }

  pub nodes : All (IsNode made.net) made.known
  nodes = ready_nodes f.input made start.ready

  pub products : HasProducts made.net p
  products = record { widths = widths-are f ranges.input accepted graph; nodes = nodes }

  pub are_taps : AreTaps p f.taps
  are_taps = record { few = ranges.few; small = ranges.taps; odd = start.taps }

  -- ---- the sum of all taps, where one is not 0

  module _ (some : all_zero f.taps ≡ false) where
    abbrev pub sum : Placed
    sum = sum_from f graph f.taps

    abbrev pub whole : Placed
    whole = whole_sum f graph

    pub sum-placed : IsChainNode made.net (sum_width p f.taps) sum
    sum-placed = taps-placed p products.widths made.net start.ready.valid nodes f.taps are_taps some

    pub whole-placed : IsPlacedNode sum.net p.width whole
    whole-placed =
        widened-placed (own_format p f.taps).signed (sum_width p f.taps) p.width sum sum-placed.keeps.valid
        (width-at p products.widths f.taps are_taps) products.widths.wide sum-placed.width

    from-sum : Keeps sum.net whole.net
    from-sum = keeps-later sum.net whole.net whole-placed.later

    pub whole-keeps : Keeps made.net whole.net
    whole-keeps = keeps-then made.net sum.net whole.net sum-placed.keeps from-sum

    whole-has : (inputs : Inputs) (t : ℤ) → All (AreWords (input_widths made.net)) inputs
        → Has p.width (weighted f.taps (recent f.input inputs t) +ℤ pos p.half) (flow whole.net.nodes inputs whole.place t)
    whole-has inputs t words =
        let x = recent f.input inputs t in
        let h = taps-has p products.widths made.net start.later start.ready f.taps are_taps some inputs t words in
        let of = λ (k : ℕ). input-held f.input ranges.input made.net start.later inputs words (t -ℤ pos k) in
        widened-has (of_width p f.taps) p.width sum sum-placed.keeps.valid
        (width-at p products.widths f.taps are_taps) products.widths.wide inputs t
        (words-kept made.net sum.net sum-placed.keeps inputs words) (weighted f.taps x +ℤ pos p.half) h
        (whole-holds p f.taps x of)

    abbrev pub output : Output
    output = record { name = codes "y"; from = record { node = whole.place; high = low_bits f + (taps_format f).width - 1; low = low_bits f } }

    pub output-lies : LiesWithin (widths whole.net.nodes) output.from
    output-lies = (omega (arith, one), omega (arith, whole-placed.width, one))
      where
        one : 1 ≤ (taps_format f).width
        one = some_width (in_places (reach_over f.input f.taps) (sum_shift (direct f)) (pos 1))

    abbrev net : Net
    net = with_result (low_bits f) (taps_format f).width whole

    some-valid : IsValid net
    some-valid = valid-output whole.net output whole-placed.later.valid output-lies

    from-input : Keeps (with_input f.input) whole.net
    from-input = keeps-then (with_input f.input) made.net whole.net (keeps-later (with_input f.input) made.net start.later) whole-keeps

    whole-outputs : whole.net.outputs ≡ []
    whole-outputs = whole-placed.later.grown.outputs ∙ sum-placed.outputs ∙ start.later.grown.outputs

    -- the net has as many delays as taps less one at most
    whole-delays : delay_count whole.net.nodes ≤ length f.taps - 1
    whole-delays =
        let none : delay_count (with_input f.input).nodes ≡ 0 = refl in
        omega (
          arith,
          whole-placed.later.grown.delays,
          taps-delays p products.widths made.net start.ready.valid nodes f.taps are_taps some,
          start.later.grown.delays,
          none,
        )

    some-outputs : net.outputs ≡ output ∷ []
    some-outputs = ap (λ (os : List Output). os ++ output ∷ []) whole-outputs

    for_made : (inputs : Inputs) → All (AreWords (input_widths net)) inputs → All (AreWords (input_widths made.net)) inputs
    for_made inputs words = words-back made.net whole.net whole-keeps inputs words

    some-sums : HasSums f graph net
    some-sums k later_some inputs t words =
        let ts = drop k f.taps in
        let z = sum_from f graph ts in
        let are = taps-drop p f.taps k are_taps in
        let h = taps-has p products.widths made.net start.later start.ready ts are later_some inputs t (for_made inputs words) in
        let answers = taps-placed p products.widths made.net start.ready.valid nodes ts are later_some in
        let on = keeps-then z.net sum.net whole.net
        (taps-keep p products.widths made.net start.ready.valid nodes f.taps k are_taps later_some) from-sum in
        let there = node_there z.net z.place (sum_width p ts) (width-at p products.widths ts are).0 answers.width in
        subst (λ w. IsResidue (sum_width p ts) (weighted ts (recent f.input inputs t) +ℤ pos p.half) (nat w))
        (sym (on.nodes.flow inputs z.place t there)) h.residue

    -- the output is the sum with half a unit, rounded down
    module _ (inputs : Inputs) (t : ℤ) (words : All (AreWords (input_widths net)) inputs) where
      abbrev x : Recent
      x = recent f.input inputs t

      abbrev pub q : ℤ
      q = int_div_euclid (weighted f.taps x +ℤ pos p.half) (pos (2 ^ low_bits f))

      pub floor : IsFloor (weighted f.taps x +ℤ pos p.half) (pos (2 ^ low_bits f)) q
      floor = floor_is (weighted f.taps x +ℤ pos p.half) (pos (2 ^ low_bits f)) (omega (arith, ints, pow_pos (low_bits f)))

      pub value : val (slice_flow net.nodes inputs output.from t) (taps_format f) ≡ q
      value =
          let low = low_bits f in
          let bits = (taps_format f).width in
          let one = some_width (in_places (reach_over f.input f.taps) (sum_shift (direct f)) (pos 1)) in
          let w = flow whole.net.nodes inputs whole.place t in
          let made_words = for_made inputs words in
          let h = whole-has inputs t made_words in
          let turned : low + bits ≡ bits + low = omega arith in
          let cut_has = floor-has low bits w (weighted f.taps x +ℤ pos p.half) q floor
          (subst (λ n. Has n (weighted f.taps x +ℤ pos p.half) w) turned h) in
          let e : low + bits - 1 + 1 - low ≡ length (drop low w) = omega (arith, cut_has.width, one) in
          ap (λ v. val v (taps_format f)) (ap (λ n. take n (drop low w)) e ∙ take-length (drop low w))
          ∙ settled (taps_format f) bits (drop low w) q one cut_has
          (held-floor f accepted ranges x
          (λ ago. input-held f.input ranges.input made.net start.later inputs made_words (t -ℤ pos ago)) q floor)

    slice-is : slice_width output.from ≡ (taps_format f).width
    slice-is =
        let one = some_width (in_places (reach_over f.input f.taps) (sum_shift (direct f)) (pos 1)) in omega (arith, one)

    some-fits : (exact : Bool) → IsModeOf (mode_of_exact exact) (Tfir f) → FitsOperator (mode_of_exact exact) (Tfir f) net
    some-fits exact mode = record {
      valid = some-valid;
      inputs = from-input.inputs;
      outputs = ap (map _) some-outputs ∙ ap (λ n. (codes "y", n) ∷ []) slice-is;
      delays = passes-count (length f.taps - 1) net.nodes whole-delays;
      good = λ inputs t words within range.
          let is : output_words (operator_outputs (Tfir f)) (map (λ o. slice_flow net.nodes inputs o.from (pos t)) net.outputs) 0
          ≡ q inputs (pos t) words =
          ap (λ (os : List Output). output_words (operator_outputs (Tfir f)) (map (λ o. slice_flow net.nodes inputs o.from (pos t)) os) 0)
          some-outputs
          ∙ value inputs (pos t) words in
          subst (IsGoodRatio (mode_of_exact exact) (exact_taps f (recent f.input inputs (pos t)))) (sym is)
          (good-floor f accepted exact mode (recent f.input inputs (pos t)) (q inputs (pos t) words) (floor inputs (pos t) words));
    }

  -- ---- both

  pub fits_modes : FitsInEachMode (Tfir f) (net_of_taps f graph)
  fits_modes = fits_each_mode (Tfir f) (net_of_taps f graph) (λ exact mode. go exact mode (all_zero f.taps) refl)
    where
      go : (exact : Bool) → IsModeOf (mode_of_exact exact) (Tfir f) → (b : Bool) → all_zero f.taps ≡ b
          → FitsOperator (mode_of_exact exact) (Tfir f)
          (if b then with_result 0 1 (zero_sum f.input) else with_result (low_bits f) (taps_format f).width (whole_sum f graph))
      go exact mode true e = zero-fits f accepted e exact mode
      go exact mode false e = some-fits e exact mode

  pub net-sums : HasSums f graph (net_of_taps f graph)
  net-sums = go (all_zero f.taps) refl
    where
      go : (b : Bool) → all_zero f.taps ≡ b
          → HasSums f graph
          (if b then with_result 0 1 (zero_sum f.input) else with_result (low_bits f) (taps_format f).width (whole_sum f graph))
      go true e k some inputs t words = let no : false ≡ true = sym (drop-some f.taps k some) ∙ e in cc
      go false e k some inputs t words = some-sums e k some inputs t words
