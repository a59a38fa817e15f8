-- A step of Horner's rule keeps what holds of a partial value.
use Rattle.std.proofs.Common.{◌≡◌, ℕ, zero, suc, ◌+◌, ◌-◌, ◌%◌, ◌^◌, ◌<◌, ◌≤◌, Bool, true, List, [], ◌∷◌, length, drop, map, refl, sym, ap, ◌∙◌, subst, arith}
use Rattle.std.specs.Prelude.{ℤ, pos, ◌+ℤ◌, ◌*ℤ◌, ◌≤ℤ◌, All, slice_index}
use Rattle.std.specs.Int.{int_div_euclid}
use Rattle.std.proofs.Math.Nat.{zero-mod, two-pow-succ}
use Rattle.std.proofs.lemmas.Int.{ints}
use Rattle.std.proofs.lemmas.List.{take_all, length-drop}
use Rattle.std.proofs.lemmas.List.Elements.{All-nil}
use Rattle.std.proofs.lemmas.Nat.{pow_pos}
use Rattle.opgen_num.specs.declared.format.Ratio.{Ratio}
use Rattle.opgen_num.specs.Floors.{IsFloor}
use Rattle.opgen_num.specs.Formats.{Holds}
use Rattle.opgen_num.specs.Words.{int, nat}
use Rattle.opgen_num.proofs.Integers.{commuted}
use Rattle.opgen_num.proofs.Residues.{value_from_residue}
use Rattle.opgen_num.proofs.Rounded.{floor_is, floor_dropped}
use Rattle.opgen_num.proofs.Words.{nat-below}
use Rattle.opgen_design.specs.Run.{AreWords}
use Rattle.opgen_design.specs.Value.{IsWidth}
use Rattle.opgen_heap.specs.Adding.{residue, with_constant}
use Rattle.opgen_heap.specs.Contents.{Contents}
use Rattle.opgen_heap.specs.Sum.{heap_sum}
use Rattle.opgen_heap.proofs.Sums.{with_constant-sum}
use Rattle.opgen_compress.specs.Recipe.{compressed}
use Rattle.opgen_compress.proofs.Compressing.{IsCompressed, compressed-is}
use Rattle.opgen_heap.proofs.Heaps.{IsHeap, constant-heap}
use Rattle.opgen_net.specs.declared.net.Net.{Net}
use Rattle.opgen_net.specs.declared.word_bits.WordBit.{WordBit}
use Rattle.opgen_net.specs.Flow.{Inputs, input_at, flow}
use Rattle.opgen_net.specs.Grown.{HasGrown}
use Rattle.opgen_net.specs.Placed.{Placed}
use Rattle.opgen_net.specs.Valid.{IsValid, widths, input_widths}
use Rattle.opgen_net.specs.WordRule.{IsThere, bits_from}
use Rattle.opgen_net.proofs.BitLists.{bits_from-flow, bits_from-there, length-bits_from}
use Rattle.opgen_net.proofs.FlowWidths.{flow-width}
use Rattle.opgen_net.proofs.Grown.{grown-then, grown-flow, grown-width}
use Rattle.opgen_net.proofs.Later.{Later, bits-later}
use Rattle.opgen_net.proofs.WordLaws.{word-found_width, word-has_bits}
use Rattle.opgen_kinds.specs.declared.poly.Poly.{Poly as Polynomial}
use Rattle.opgen_kinds.specs.Horner.{all_guarded, low_end, high_end}
use Rattle.opgen_kinds.specs.Poly.{IsPoly}
use Rattle.opgen_ports.proofs.InputPorts.{input_bit}
use Rattle.opgen_kinds.proofs.of_kind.Results.{guard_few, partial_bits, poly_width}
use Rattle.opgen_partial.specs.declared.pairs.Work.{Work}
use Rattle.opgen_partial.specs.Law.{AreFactors, HasProducts, words_at}
use Rattle.opgen_partial.proofs.Laws.{IsRounded, products-law, rounded_sum}
use Rattle.opgen_poly.specs.declared.steps.Partial.{Partial}
use Rattle.opgen_poly.specs.Near.{IsPartial, exact_from, halves_from, input_number, IsLessThanHalves, IsAtMostHalves}
use Rattle.opgen_poly.specs.Recipe.{added, coefficient_at, heap_width, kept_part, pairs, products, rounding, start, stepped, width_at, with_input}
use Rattle.opgen_poly.proofs.Cuts.{cut-light}
use Rattle.opgen_poly.proofs.Values.{unit_of, signed-held, step-near, step-between}

abbrev pub AreInputs : Polynomial → Inputs → Type 0
AreInputs p ins = All (AreWords (p.input.width ∷ [])) ins

-- the widths of heaps
pub heap-room : (p : Polynomial) (place : ℕ) → IsPoly p → (1 ≤ heap_width p place) × (heap_width p place ≤ 70)
heap-room p zero fits = (omega (arith, input_bit p.input fits.input), omega (arith, fits.narrow, guard_few p fits, (poly_width p fits).1))
heap-room p (suc k) fits = (omega (arith, input_bit p.input fits.input), omega (arith, fits.narrow, (partial_bits p (suc k) fits).1))

pub heap-next : (p : Polynomial) (place : ℕ) → 1 ≤ place → heap_width p place ≡ p.input.width + width_at p place
heap-next p zero h = absurd (omega (arith, h))
heap-next p (suc k) h = refl

-- the sum of a step at a time: y is the floor that is kept, for a number e in place of what is left out
pub record IsStepSum (p : Polynomial) (place x : ℕ) (h : ℤ) (sum : List Bool) : Type 0 where
  pub e : ℕ
  pub small : e < unit_of p
  pub turns : ℤ
  pub number_is : ((((pos (unit_of p) *ℤ coefficient_at p place) +ℤ (pos x *ℤ h)) +ℤ pos e) +ℤ pos (rounding p place))
      +ℤ (pos (2 ^ heap_width p place) *ℤ turns)
      ≡ pos (nat sum)

module _ (p : Polynomial) (fits : IsPoly p) (place : ℕ) (within : place + 1 < length p.coefs) (s : Partial)
    (is : IsPartial p (place + 1) s) where
  abbrev w : ℕ
  w = p.input.width

  pub factors : AreFactors (pairs p place s.node) s.net
  factors = record {
    first = record {
      width = is.wide;
      is_width = (omega (arith, (partial_bits p (place + 1) fits).0), omega (arith, (partial_bits p (place + 1) fits).1));
    };
    second = record {
      width = grown-width (with_input p) s.net is.grown 0 (omega arith);
      is_width = (input_bit p.input fits.input, omega (arith, fits.narrow));
    };
  }

  abbrev made : Work
  made = products p place s

  pub law : HasProducts (pairs p place s.node) (start p place s) made
  law = products-law (pairs p place s.node) (start p place s) is.valid factors (All-nil _)

  abbrev heap : Contents
  heap = with_constant made.heap (added p place)

  abbrev two : Placed
  two = compressed made.net heap

  is_width : IsWidth heap.width
  is_width =
      let (some, few) = heap-room p place fits in
      (omega (arith, law.width, some), omega (arith, law.width, few))

  is_heap : IsHeap made.heap
  is_heap =
      let below : 2 ^ made.heap.width ≡ 2 ^ heap_width p place = ap (λ k. 2 ^ k) law.width in
      record { below = omega (arith, law.constant, below, pow_pos (heap_width p place)); few = law.few (omega arith) }

  pub sum-is : IsCompressed made.net heap two
  sum-is = compressed-is made.net heap law.valid is_width (constant-heap made.heap (added p place) is_heap) law.there

  pub sum-wide : slice_index (widths two.net.nodes) two.place ≡ heap_width p place
  sum-wide = sum-is.wide ∙ law.width

  pub sum-grown : HasGrown s.net two.net
  sum-grown = grown-then s.net made.net two.net law.grown sum-is.later.grown

  pub from-input : HasGrown (with_input p) two.net
  from-input = grown-then (with_input p) s.net two.net is.grown sum-grown

  pub words-of : (net : Net) → HasGrown (with_input p) net → (ins : Inputs) → AreInputs p ins → All (AreWords (input_widths net)) ins
  words-of net grown ins h = subst (λ (is : List (List ℕ × ℕ)). All (AreWords (map (λ i. i.1) is)) ins) (sym grown.inputs) h

  pub sum-length : (ins : Inputs) (t : ℤ) → AreInputs p ins → length (flow two.net.nodes ins two.place t) ≡ heap_width p place
  sum-length ins t h = flow-width two.net sum-is.later.valid ins (words-of two.net from-input ins h) two.place t ∙ sum-wide

  module _ (ins : Inputs) (t : ℤ) (words : AreInputs p ins) where
    abbrev before : List Bool
    before = flow s.net.nodes ins s.node t

    abbrev x : ℕ
    x = input_number p ins t

    abbrev sum : List Bool
    sum = flow two.net.nodes ins two.place t

    x-word : flow s.net.nodes ins 0 t ≡ input_at ins 0 w t
    x-word = grown-flow (with_input p) s.net is.grown ins 0 t (omega arith)

    abbrev kept : ℕ
    kept = heap_sum (words_at made.net.nodes ins t) made.heap

    sum_number : nat sum ≡ residue (pos kept +ℤ added p place) (2 ^ heap_width p place)
    sum_number =
        sum-is.sum ins t (words-of made.net (grown-then (with_input p) s.net made.net is.grown law.grown) ins words)
        ∙ with_constant-sum (words_at made.net.nodes ins t) made.heap (added p place) (pow_pos made.heap.width)
        ∙ ap (λ k. residue (pos kept +ℤ added p place) (2 ^ k)) law.width

    rounded : IsRounded (pairs p place s.node) before (flow s.net.nodes ins 0 t) (heap_width p place) (kept_part p place) (nat sum)
    rounded =
        rounded_sum (pairs p place s.node) before (flow s.net.nodes ins 0 t) (heap_width p place) (0 % 2 ^ heap_width p place) kept (nat sum)
        (kept_part p place) (zero-mod (2 ^ heap_width p place)) (law.sum ins t (words-of s.net is.grown ins words)) sum_number

    abbrev half : ℕ
    half = 2 ^ (w - 1)

    two-halves : unit_of p ≡ half + half
    two-halves =
        let whole : suc (w - 1) ≡ w = omega (arith, input_bit p.input fits.input) in
        sym (ap (λ k. 2 ^ k) whole) ∙ two-pow-succ (w - 1)

    light : rounded.missing ≤ half
    light = omega (arith, rounded.light, cut-light (width_at p (place + 1)) w)

    pub step-sum : IsStepSum p place x (int before) sum
    step-sum = record {
      e = half - rounded.missing;
      small = omega (arith, two-halves, pow_pos (w - 1));
      turns = rounded.turns;
      number_is =
          let A = coefficient_at p place in
          let product : int before *ℤ pos (nat (flow s.net.nodes ins 0 t)) ≡ pos x *ℤ int before =
          ap (λ v. int before *ℤ pos (nat v)) x-word ∙ commuted (int before) (pos x) in
          let of_a : A *ℤ pos (unit_of p) ≡ pos (unit_of p) *ℤ A = commuted A (pos (unit_of p)) in
          omega (arith, ints, rounded.number_is, product, of_a, light);
    }

    -- the floor that is kept
    abbrev pub whole : ℤ
    whole = ((pos (unit_of p) *ℤ coefficient_at p place) +ℤ (pos x *ℤ int before)) +ℤ pos step-sum.e

    abbrev pub y : ℤ
    y = int_div_euclid whole (pos (unit_of p))

    pub floor : IsFloor whole (pos (unit_of p)) y
    floor = floor_is whole (pos (unit_of p)) (omega (arith, ints, pow_pos w))

    narrow : x ≤ unit_of p
    narrow =
        let long : length (input_at ins 0 w t) ≡ w = flow-width (with_input p) valid_input ins words 0 t in
        let below : nat (input_at ins 0 w t) < 2 ^ length (input_at ins 0 w t) = nat-below (input_at ins 0 w t) in
        omega (arith, below, ap (λ k. 2 ^ k) long)
      where
        valid_input : IsValid (with_input p)
        valid_input = record { nodes = ((input_bit p.input fits.input, omega (arith, fits.narrow)), tt); inputs = refl; outputs = All-nil _ }

    pub ends : (low_end (drop place (all_guarded p)) ≤ℤ y) × (y ≤ℤ high_end (drop place (all_guarded p)))
    ends = step-between p fits place within x step-sum.e (int before) y narrow step-sum.small floor (is.low ins t words) (is.high ins t words)

    pub near : IsLessThanHalves (halves_from p place) (exact_from p place x) y
    near = step-near p fits place within x step-sum.e (int before) y narrow step-sum.small floor (is.near ins t words)

  -- the next partial value
  module _ (some : 1 ≤ place) where
    abbrev H : ℕ
    H = width_at p place

    heap-is : heap_width p place ≡ w + H
    heap-is = heap-next p place some

    no-rounding : rounding p place ≡ 0
    no-rounding = by place some
      where
        by : (k : ℕ) → 1 ≤ k → rounding p k ≡ 0
        by zero h = absurd (omega (arith, h))
        by (suc k) h = refl

    abbrev bits : List WordBit
    bits = bits_from two.place w H

    count : length bits ≡ H
    count = length-bits_from two.place w H

    pub bits-there : All (IsThere (widths two.net.nodes)) bits
    bits-there = bits_from-there (widths two.net.nodes) two.place w H (omega (arith, sum-wide, heap-is))

    pub bits-width : IsWidth (length bits)
    bits-width = (omega (arith, count, (partial_bits p place fits).0), omega (arith, count, (partial_bits p place fits).1))

    abbrev next : Partial
    next = stepped p place s

    next-wide : slice_index (widths next.net.nodes) next.node ≡ H
    next-wide = word-found_width two.net sum-is.later.valid bits bits-there ∙ count

    next-later : Later two.net next.net
    next-later = bits-later two.net sum-is.later.valid bits bits-width bits-there

    module _ (ins : Inputs) (t : ℤ) (words : AreInputs p ins) where
      abbrev total : List Bool
      total = sum ins t words

      abbrev out : List Bool
      out = drop w total

      long : length total ≡ w + H
      long = sum-length ins t words ∙ heap-is

      out-long : length out ≡ H
      out-long = omega (arith, length-drop w total, long)

      next-word : flow next.net.nodes ins next.node t ≡ out
      next-word =
          word-has_bits two.net sum-is.later.valid bits bits-there ins t (words-of two.net from-input ins words)
          ∙ bits_from-flow two.net.nodes ins t two.place w H (omega (arith, long))
          ∙ take_all H out (omega (arith, out-long))

      value : int out ≡ y ins t words
      value =
          let turns = (step-sum ins t words).turns in
          let k = ap (λ n. pos (2 ^ n) *ℤ turns) (sum-length ins t words) in
          let number : whole ins t words +ℤ (pos (2 ^ length total) *ℤ turns) ≡ pos (nat total) =
          omega (arith, ints, (step-sum ins t words).number_is, k, no-rounding) in
          let dropped : y ins t words +ℤ (pos (2 ^ H) *ℤ turns) ≡ pos (nat out) =
          floor_dropped w H total (whole ins t words) turns (y ins t words) long number (floor ins t words) in
          let is : y ins t words +ℤ (pos (2 ^ length out) *ℤ turns) ≡ pos (nat out) =
          ap (λ n. y ins t words +ℤ (pos (2 ^ n) *ℤ turns)) out-long ∙ dropped in
          let holds : Holds true H (y ins t words) =
          signed-held (low_end (drop place (all_guarded p))) (high_end (drop place (all_guarded p))) (y ins t words)
          (ends ins t words).0 (ends ins t words).1 in
          value_from_residue out (record { signed = true; width = H; lsb = pos 0 }) (y ins t words) turns
          (omega (arith, out-long, (partial_bits p place fits).0)) is (subst (λ n. Holds true n (y ins t words)) (sym out-long) holds)

      next-value : int (flow next.net.nodes ins next.node t) ≡ y ins t words
      next-value = ap int next-word ∙ value

    pub step-grown : HasGrown s.net next.net
    step-grown = grown-then s.net two.net next.net sum-grown next-later.grown

    pub step-partial : IsPartial p place next
    step-partial = record {
      valid = next-later.valid;
      grown = grown-then (with_input p) two.net next.net from-input next-later.grown;
      wide = next-wide;
      low = λ ins t words. subst (λ v. low_end (drop place (all_guarded p)) ≤ℤ v) (sym (next-value ins t words)) (ends ins t words).0;
      high = λ ins t words. subst (λ v. v ≤ℤ high_end (drop place (all_guarded p))) (sym (next-value ins t words)) (ends ins t words).1;
      near = λ ins t words. less (halves_from p place) (exact_from p place (x ins t words)) (int (flow next.net.nodes ins next.node t)) (y ins t words) (near ins t words)
          (next-value ins t words);
      nearer = λ ins t words before.
          subst (IsLessThanHalves (halves_from p place) (exact_from p place (x ins t words))) (sym (next-value ins t words)) (near ins t words);
    }
      where
        less : (k : ℕ) (e : Ratio) (v u : ℤ) → IsLessThanHalves k e u → v ≡ u → IsAtMostHalves k e v
        less k e v u h is = subst (IsAtMostHalves k e) (sym is) (omega (arith, ints, h))
