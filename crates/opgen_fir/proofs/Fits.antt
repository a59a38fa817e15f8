-- The net of a sum fits its operators.
use Rattle.std.proofs.Common.{◌≡◌, ℕ, zero, suc, ◌+◌, ◌-◌, ◌^◌, ◌<◌, ◌≤◌, Bool, true, false, List, [], ◌∷◌, ◌++◌, length, map, take, drop, refl, sym, ap, ◌∙◌, subst, arith}
use Rattle.std.specs.Prelude.{ℤ, pos, ◌+ℤ◌, ◌-ℤ◌, ◌*ℤ◌, IsTrue, None, All, codes, slice_index}
use Rattle.std.specs.Int.{int_div_euclid}
use Rattle.std.proofs.lemmas.Int.{ints}
use Rattle.std.proofs.lemmas.List.{length-drop, take_all}
use Rattle.std.proofs.lemmas.Nat.{pow_pos}
use Rattle.opgen_num.specs.Formats.{Holds}
use Rattle.opgen_num.specs.Words.{nat, val}
use Rattle.opgen_num.proofs.Integers.{product-sum}
use Rattle.opgen_num.proofs.Quotients.{quotient_and_rest}
use Rattle.opgen_num.proofs.Residues.{value_from_residue}
use Rattle.opgen_num.proofs.Rounded.{floor_is, floor_dropped}
use Rattle.opgen_num.proofs.Values.{val_holds}
use Rattle.opgen_heap.specs.Adding.{residue}
use Rattle.opgen_heap.specs.Contents.{Contents}
use Rattle.opgen_heap.specs.Sum.{heap_sum}
use Rattle.opgen_heap.proofs.Sums.{with_constant-sum}
use Rattle.opgen_net.specs.declared.net.Net.{Net}
use Rattle.opgen_net.specs.declared.net.Output.{Output}
use Rattle.opgen_net.specs.Delays.{PassesAtMost}
use Rattle.opgen_net.specs.Flow.{Inputs, flow, slice_flow, input_at}
use Rattle.opgen_net.specs.Grown.{HasGrown}
use Rattle.opgen_net.specs.Valid.{IsValid, widths, input_widths, slice_width}
use Rattle.opgen_net.proofs.FlowWidths.{flow-width}
use Rattle.opgen_net.proofs.Grown.{grown-few, grown-then}
use Rattle.opgen_net.proofs.InputLaws.{input_at-width}
use Rattle.opgen_design.specs.Run.{AreWords}
use Rattle.opgen_compress.specs.Kept.{IsSumOf}
use Rattle.opgen_kinds.specs.declared.sum.Sum.{Sum}
use Rattle.opgen_operator.specs.declared.operator.Operator.TheVariants.{Scale, Fir}
use Rattle.opgen_operator.specs.Fits.{FitsOperator, FitsInEachMode}
use Rattle.opgen_ports.specs.Good.{IsGoodRatio}
use Rattle.opgen_operator.specs.Held.{OutputsHold}
use Rattle.opgen_kinds.specs.Sum.{exact_sum, first_inexact, guard_bits, sum_format, IsSum}
use Rattle.opgen_operator.specs.Outputs.{recent_words}
use Rattle.opgen_ports.specs.Ports.{one_input, Recent}
use Rattle.opgen_ports.specs.Spans.{IsOf}
use Rattle.opgen_ports.specs.Modes.{mode_of_exact}
use Rattle.opgen_operator.proofs.EachMode.{asked_whole, fits_each_mode}
use Rattle.opgen_operator.proofs.Shown.{one_shown}
use Rattle.opgen_ports.proofs.InputPorts.{input_bit}
use Rattle.opgen_kcm.specs.Recipe.{Terms, HasTermsMore}
use Rattle.opgen_kcm.specs.Multiple.{sum_at}
use Rattle.opgen_heap.proofs.Residues.{residue-then}
use Rattle.opgen_fir.specs.Recipe.{tapped, no_terms, with_half, sum_width, above_guard, with_output}
use Rattle.opgen_fir.specs.Summed.{back, recent, HasSum}
use Rattle.opgen_fir.proofs.Delays.{back-is, delays-few}
use Rattle.opgen_fir.proofs.Good.{half_of, rounded, rounded-floor, sum-good}

-- what is left of a number is the number less a multiple of the divisor
residue-congruent : (z : ℤ) (m : ℕ) → 0 < m → z +ℤ (pos m *ℤ (pos 0 -ℤ int_div_euclid z (pos m))) ≡ pos (residue z m)
residue-congruent z m some =
    let q = int_div_euclid z (pos m) in
    let whole = quotient_and_rest z (pos m) (omega (arith, ints, some)) in
    let low = (floor_is z (pos m) (omega (arith, ints, some))).0 in
    let none : ((pos 0 -ℤ q) +ℤ q) ≡ pos 0 = omega (arith, ints) in
    let split = product-sum (pos m) (pos 0 -ℤ q) q in
    let zero_product : pos m *ℤ ((pos 0 -ℤ q) +ℤ q) ≡ pos m *ℤ pos 0 = ap (λ z. pos m *ℤ z) none in
    let turn : q *ℤ pos m ≡ pos m *ℤ q = omega (arith, ints) in
    omega (arith, ints, whole, low, split, zero_product, turn)

not-asked : (s : Sum) → IsTrue false → first_inexact s ≡ None
not-asked s h = let clash : false ≡ true = h in let no : ⊥ = cc in absurd no

-- with half a unit
half-sum : (s : Sum) (guard : ℕ) (t : Terms) (inputs : Inputs) (u e : ℤ) → sum_at t inputs u ≡ residue e (2 ^ t.heap.width)
    → heap_sum (λ n. flow t.net.nodes inputs n u) (with_half guard t.heap) ≡ residue (e +ℤ half_of guard) (2 ^ t.heap.width)
half-sum s zero t inputs u e is = is ∙ ap (λ z. residue z (2 ^ t.heap.width)) (omega (arith, ints))
half-sum s (suc k) t inputs u e is =
    let m = 2 ^ t.heap.width in
    with_constant-sum (λ n. flow t.net.nodes inputs n u) t.heap (pos (2 ^ k)) (pow_pos t.heap.width)
    ∙ ap (λ n. residue (pos n +ℤ pos (2 ^ k)) m) is
    ∙ residue-then e (pos (2 ^ k)) m (pow_pos t.heap.width)

pub half-width : (guard : ℕ) (heap : Contents) → (with_half guard heap).width ≡ heap.width
half-width zero heap = refl
half-width (suc k) heap = refl

module _ (s : Sum) (ranges : IsSum 256 s) (hold : OutputsHold) (some : 1 ≤ (sum_format s).width) (t : Terms)
    (more : HasTermsMore (no_terms s) t)
    (sums : (inputs : Inputs) (u : ℤ) → All (AreWords (input_widths (tapped s))) inputs → HasSum s (recent s inputs u) (length s.coefs)
    (sum_width s) (sum_at t inputs u))
    (after : Net) (n : ℕ) (is : IsSumOf t.net (with_half (guard_bits s) t.heap) after.nodes n)
    (wide : slice_index (widths after.nodes) n ≡ sum_width s) (grown : HasGrown t.net after) (valid : IsValid after) where
  module _ (inputs : Inputs) (u : ℤ) (words : All (AreWords (s.input.width ∷ [])) inputs) where
    -- the inputs are numbers of their format
    input-holds : (ago : ℕ) → IsOf s.input (recent s inputs u ago)
    input-holds ago =
        let x = input_at inputs 0 s.input.width (back ago u) in
        let size : length x ≡ s.input.width = input_at-width (s.input.width ∷ []) inputs words 0 s.input.width refl (back ago u) in
        subst (λ k. Holds s.input.signed k (val x s.input)) size
        (val_holds x s.input (omega (arith, size, input_bit s.input ranges.input)))

    long : length (flow after.nodes inputs n u) ≡ sum_width s
    long =
        let names = sym (grown.inputs ∙ more.net.inputs) in
        let given = subst (λ (is : List (List ℕ × ℕ)). All (AreWords (map (λ i. i.1) is)) inputs) names words in
        flow-width after valid inputs given n u ∙ wide

    -- the output's word has the value of the rounded sum
    pub output-value : (total : HasSum s (recent s inputs u) (length s.coefs) (sum_width s) (sum_at t inputs u))
        → val (slice_flow after.nodes inputs (above_guard s n) u) (sum_format s) ≡ rounded (guard_bits s) total.total
    output-value total =
        let g = guard_bits s in
        let out = (sum_format s).width in
        let e = total.total in
        let w = flow after.nodes inputs n u in
        let m = 2 ^ sum_width s in
        let same : t.heap.width ≡ sum_width s = more.width in
        let sum : sum_at t inputs u ≡ residue e (2 ^ t.heap.width) = total.is ∙ ap (λ k. residue e (2 ^ k)) (sym same) in
        let number : nat w ≡ residue (e +ℤ half_of g) m =
        is inputs u (subst (λ (is : List (List ℕ × ℕ)). All (AreWords (map (λ i. i.1) is)) inputs) (sym more.net.inputs) words)
        ∙ half-sum s g t inputs u e sum
        ∙ ap (λ k. residue (e +ℤ half_of g) (2 ^ k)) same in
        let k = pos 0 -ℤ int_div_euclid (e +ℤ half_of g) (pos m) in
        let congruent : (e +ℤ half_of g) +ℤ (pos (2 ^ length w) *ℤ k) ≡ pos (nat w) =
        ap (λ i. (e +ℤ half_of g) +ℤ (pos (2 ^ i) *ℤ k)) long
        ∙ residue-congruent (e +ℤ half_of g) m (pow_pos (sum_width s))
        ∙ ap pos (sym number) in
        let size : length w ≡ g + out = omega (arith, long) in
        let y = rounded g e in
        let dropped = floor_dropped g out w (e +ℤ half_of g) k y size congruent (rounded-floor g e) in
        let rest : length (drop g w) ≡ out = omega (arith, length-drop g w, size) in
        let cut : take (sum_width s - 1 + 1 - g) (drop g w) ≡ drop g w =
        take_all (sum_width s - 1 + 1 - g) (drop g w) (omega (arith, rest, some)) in
        let good = sum-good s ranges (recent s inputs u) e total.summed false (not-asked s) in
        let holds : Holds (sum_format s).signed out y = hold (Fir s) ranges (recent s inputs u) input-holds y good in
        ap (λ v. val v (sum_format s)) cut
        ∙ value_from_residue (drop g w) (sum_format s) y k (omega (arith, rest, some))
        (ap (λ i. y +ℤ (pos (2 ^ i) *ℤ k)) rest ∙ dropped)
        (subst (λ i. Holds (sum_format s).signed i y) (sym rest) holds)

  good-output : (exact : Bool) → (IsTrue exact → first_inexact s ≡ None) → (inputs : Inputs) (u : ℕ)
      → All (AreWords (s.input.width ∷ [])) inputs
      → IsGoodRatio (mode_of_exact exact) (exact_sum s (recent_words (one_input s.input) inputs u 0))
      (val (slice_flow after.nodes inputs (above_guard s n) (pos u)) (sum_format s))
  good-output exact asked inputs u words =
      let total = sums inputs (pos u) words in
      let x = recent s inputs (pos u) in
      let each = λ (ago : ℕ). ap (λ v. val (input_at inputs 0 s.input.width v) s.input) (back-is ago (pos u)) in
      let same : x ≡ recent_words (one_input s.input) inputs u 0 = λ i ago. each ago i in
      one_shown (λ (r : Recent) y. IsGoodRatio (mode_of_exact exact) (exact_sum s r) y) (sym same) (output-value inputs (pos u) words total)
      (sum-good s ranges x total.total total.summed exact asked)

  slice : slice_width (above_guard s n) ≡ (sum_format s).width
  slice = omega (arith, some)

  pub made-is : with_output s (record { net = after; place = n }) ≡ record {
    inputs = (codes "x", s.input.width) ∷ [];
    nodes = after.nodes;
    outputs = record { name = codes "y"; from = above_guard s n } ∷ [];
  }
  made-is =
      let y : Output = record { name = codes "y"; from = above_guard s n } in
      ap (λ (is : List (List ℕ × ℕ)). record { inputs = is; nodes = after.nodes; outputs = after.outputs ++ y ∷ [] })
      (grown.inputs ∙ more.net.inputs)
      ∙ ap (λ (os : List Output). record { inputs = (codes "x", s.input.width) ∷ []; nodes = after.nodes; outputs = os ++ y ∷ [] })
      (grown.outputs ∙ more.net.outputs)

  pub fits-sum : (net : Net) → net ≡ with_output s (record { net = after; place = n }) → IsValid net
      → FitsInEachMode (Scale s) net × FitsInEachMode (Fir s) net
  fits-sum net made whole =
      let e = made ∙ made-is in (
        fits_each_mode (Scale s) net
            (λ exact mode. subst (FitsOperator (mode_of_exact exact) (Scale s)) (sym e)
            (scale exact (asked_whole exact (Scale s) mode) (subst IsValid e whole))),
        fits_each_mode (Fir s) net
            (λ exact mode. subst (FitsOperator (mode_of_exact exact) (Fir s)) (sym e)
            (fir exact (asked_whole exact (Fir s) mode) (subst IsValid e whole))),
      )
    where
      few : PassesAtMost (length s.coefs - 1) after.nodes
      few =
          grown-few (tapped s) after (grown-then (tapped s) t.net after more.net grown) (length s.coefs - 1) (delays-few s.coefs)

      last : Net
      last = record {
        inputs = (codes "x", s.input.width) ∷ [];
        nodes = after.nodes;
        outputs = record { name = codes "y"; from = above_guard s n } ∷ [];
      }

      scale : (exact : Bool) → (IsTrue exact → first_inexact s ≡ None) → IsValid last → FitsOperator (mode_of_exact exact) (Scale s) last
      scale exact asked v = record {
        valid = v;
        inputs = refl;
        outputs = ap (λ w. (codes "y", w) ∷ []) slice;
        delays = few;
        good = λ inputs u words within range. good-output exact asked inputs u words;
      }

      fir : (exact : Bool) → (IsTrue exact → first_inexact s ≡ None) → IsValid last → FitsOperator (mode_of_exact exact) (Fir s) last
      fir exact asked v = record {
        valid = v;
        inputs = refl;
        outputs = ap (λ w. (codes "y", w) ∷ []) slice;
        delays = few;
        good = λ inputs u words within range. good-output exact asked inputs u words;
      }
