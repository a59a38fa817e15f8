-- The net of a sum of products fits the operator.
use Rattle.std.proofs.Common.{◌≡◌, ℕ, zero, suc, ◌+◌, ◌-◌, ◌*◌, ◌/◌, ◌%◌, ◌^◌, ◌<◌, ◌≤◌, ◌⊎◌, inl, inr, Bool, true, false, not, if◌then◌else◌, List, [], ◌∷◌, ◌++◌, length, map, take, drop, refl, sym, ap, ◌∙◌, subst, arith}
use Rattle.std.specs.Prelude.{ℤ, pos, negsuc, ◌+ℤ◌, ◌-ℤ◌, ◌*ℤ◌, ◌≤ℤ◌, ◌<ℤ◌, unsigned_abs, IsTrue, None, All, codes, slice_index, slice_get, Some, nat_eq, ◌==◌}
use Rattle.std.specs.Int.{int_div_euclid}
use Rattle.std.proofs.Math.Nat.{zero-mod}
use Rattle.std.proofs.lemmas.Bool.{eqb-true, cases_lt}
use Rattle.std.proofs.lemmas.Int.{ints}
use Rattle.std.proofs.lemmas.List.{length-drop, take_all}
use Rattle.std.proofs.lemmas.Nat.{pow_pos}
use Rattle.opgen_num.specs.Floors.{IsFloor}
use Rattle.opgen_num.specs.Formats.{Holds}
use Rattle.opgen_num.specs.Rounding.{IsWithinOne}
use Rattle.opgen_num.specs.Words.{val, nat}
use Rattle.opgen_num.proofs.Integers.{sum-product, zero_from_abs}
use Rattle.opgen_num.proofs.Residues.{value_from_residue}
use Rattle.opgen_num.proofs.Rounded.{floor_is, floor_dropped}
use Rattle.opgen_num.proofs.Values.{val_holds}
use Rattle.opgen_design.specs.Run.{AreWords}
use Rattle.opgen_compress.specs.Kept.{IsSumOf}
use Rattle.opgen_heap.specs.Adding.{residue, with_constant}
use Rattle.opgen_heap.proofs.Residues.{residue-then}
use Rattle.opgen_heap.proofs.Sums.{with_constant-sum}
use Rattle.opgen_net.specs.declared.net.Net.{Net}
use Rattle.opgen_net.specs.declared.net.Output.{Output}
use Rattle.opgen_net.specs.Flow.{Inputs, flow, slice_flow, input_at}
use Rattle.opgen_net.specs.Grown.{HasGrown}
use Rattle.opgen_net.specs.Valid.{IsValid, widths, input_widths, slice_width}
use Rattle.opgen_net.proofs.FlowWidths.{flow-width}
use Rattle.opgen_net.proofs.Grown.{grown-few, grown-then}
use Rattle.opgen_net.proofs.InputLaws.{input_at-width}
use Rattle.opgen_net.proofs.Later.{words-grown}
use Rattle.opgen_partial.specs.declared.pairs.Work.{Work}
use Rattle.opgen_partial.proofs.Laws.{residue_number}
use Rattle.opgen_terms.specs.declared.sop.Sop.{Sop}
use Rattle.opgen_terms.specs.Sop.{Term, IsSop, IsAcceptedSop, AreOf, SopsHold, format_of, terms_of, offset_term, offset_terms, total, height, depth, raised, exact_sop, sop_format, sop_inexact}
use Rattle.opgen_terms.proofs.Lawful.{accepted_sop}
use Rattle.opgen_terms.proofs.EachTerm.{input_fits}
use Rattle.opgen_operator.specs.declared.operator.Operator.TheVariants.{Sop as sop_operator}
use Rattle.opgen_operator.specs.Fits.{FitsOperator, FitsInEachMode}
use Rattle.opgen_ports.specs.declared.ports.PortFormat.{PortFormat}
use Rattle.opgen_ports.specs.Good.{IsGoodRatio}
use Rattle.opgen_ports.specs.Ports.{format_at}
use Rattle.opgen_ports.specs.Reaches.{places_down, up, down}
use Rattle.opgen_ports.specs.Modes.{mode_of_exact}
use Rattle.opgen_operator.proofs.EachMode.{asked_whole, fits_each_mode}
use Rattle.opgen_ports.proofs.InputPorts.{input_bit}
use Rattle.opgen_sop.specs.Recipe.{input_net, heap_width, with_offset}
use Rattle.opgen_sop.specs.Sizes.{finer, floor, lost, offset_fraction, tables, floors, rounding, IsGuard}
use Rattle.opgen_sop.specs.Small.{units, IsSmallGuard}
use Rattle.opgen_sop.specs.Summed.{numbers, share, IsNear, IsSummed, AreSummed, Stands, sum_at}
use Rattle.opgen_sop.proofs.AcceptedTerms.{units-some, small-terms}
use Rattle.opgen_sop.proofs.GuardBits.{nothing-lost, no-guard-bits}
use Rattle.opgen_sop.proofs.InputNodes.{nodes-delays}
use Rattle.opgen_sop.proofs.Nearness.{near-none, near-sum, rounded, exact}
use Rattle.opgen_sop.proofs.ScaledTerm.{den-natural}
use Rattle.opgen_sop.proofs.TermSums.{floor-near, moved-near}

-- the terms together, in guard units
total-times : (f : Term → ℤ) (g : ℤ) (ts : List Term) → total (λ t. f t *ℤ g) ts ≡ total f ts *ℤ g
total-times f g [] = omega (arith, ints)
total-times f g (t ∷ ts) =
    ap (λ z. (f t *ℤ g) +ℤ z) (total-times f g ts) ∙ sym (sum-product (f t) (total f ts) g)

zero-floor : (k : ℤ) (q : ℕ) → 0 < q → (pos q *ℤ k) ≤ℤ pos 0 → pos 0 ≤ℤ (pos q *ℤ k) → k ≡ pos 0
zero-floor (pos zero) q h l g = refl
zero-floor (pos (suc k)) zero h l g = absurd (omega (arith, h))
zero-floor (pos (suc k)) (suc q) h l g = absurd (omega (arith, ints, l))
zero-floor (negsuc k) zero h l g = absurd (omega (arith, h))
zero-floor (negsuc k) (suc q) h l g = absurd (omega (arith, ints, g))

-- half a unit, or more, makes good what is lost
module _ (s : Sop) (guard : ℕ) (is : IsGuard s guard) where
  abbrev j : ℕ
  j = tables s guard

  abbrev c : ℕ
  c = floors s guard

  pub rounds-low : j + 2 * c ≤ 2 * rounding s guard
  rounds-low = omega arith

  pub rounds-high : j + 2 * rounding s guard < 2 * 2 ^ guard
  rounds-high = by (cases_lt (c + (j + 1) / 2) (2 ^ guard / 2))
    where
      by : (c + (j + 1) / 2 < 2 ^ guard / 2 ⊎ 2 ^ guard / 2 ≤ c + (j + 1) / 2) → j + 2 * rounding s guard < 2 * 2 ^ guard
      by (inl h) =
          let r : rounding s guard ≡ 2 ^ guard / 2 = omega (arith, h) in
          omega (arith, is.enough, r)
      by (inr h) =
          let r : rounding s guard ≡ c + (j + 1) / 2 = omega (arith, h) in
          omega (arith, is.enough, r)

module _ (s : Sop) (accepted : IsAcceptedSop s) (guard : ℕ) (is_guard : IsGuard s guard) (small : IsSmallGuard s guard) where
  sop : IsSop s
  sop = accepted_sop s accepted

  -- the offset, rounded down
  offset-near : (x : (input : ℕ) → ℤ)
      → IsNear (units s) (total (share s guard x) (offset_terms s)) (floor (offset_fraction s guard)) 0 (lost (offset_fraction s guard))
  offset-near x = by (nat_eq (unsigned_abs s.offset) 0) refl
    where
      z : ℤ
      z = finer guard (offset_term s).shift

      Q : ℕ
      Q = unsigned_abs s.den * down z

      den-is : (offset_fraction s guard).den ≡ pos Q
      den-is = den-natural s.den (down z) sop.numbers.positive

      n : ℤ
      n = s.offset *ℤ pos (up z)

      some : 0 < Q
      some = positive Q (sop.numbers.positive) den-is
        where
          positive : (q : ℕ) → pos 1 ≤ℤ s.den → s.den *ℤ pos (down z) ≡ pos q → 0 < q
          positive zero h e = absurd (none s.den (down z) h (pow_pos (places_down z)) e)
            where
              none : (d : ℤ) (u : ℕ) → pos 1 ≤ℤ d → 0 < u → d *ℤ pos u ≡ pos 0 → ⊥
              none (pos zero) u h l e = omega (arith, ints, h)
              none (pos (suc d)) zero h l e = omega (arith, l)
              none (pos (suc d)) (suc u) h l e = omega (arith, ints, e)
              none (negsuc d) u h l e = omega (arith, ints, h)
          positive (suc q) h e = omega arith

      plain : IsNear Q n (floor (offset_fraction s guard)) 0 (lost (offset_fraction s guard))
      plain =
          let size : unsigned_abs (offset_fraction s guard).den ≡ Q = ap unsigned_abs den-is in
          subst (λ k. IsNear Q n k 0 (lost (offset_fraction s guard))) (ap (int_div_euclid n) (sym den-is))
          (subst (λ m. IsNear Q n (int_div_euclid n (pos Q)) 0 (if not (unsigned_abs n % m == 0) then 1 else 0)) (sym size)
          (floor-near n Q some))

      by : (b : Bool) → nat_eq (unsigned_abs s.offset) 0 ≡ b
          → IsNear (units s) (total (share s guard x) (if b then [] else offset_term s ∷ [])) (floor (offset_fraction s guard)) 0
          (lost (offset_fraction s guard))
      by true e =
          let none : s.offset ≡ pos 0 = zero_from_abs s.offset (eqb-true (unsigned_abs s.offset) 0 e) in
          let first : pos 0 *ℤ pos (up z) ≡ pos 0 = omega (arith, ints) in
          let no : n ≡ pos 0 = ap (λ o. o *ℤ pos (up z)) none ∙ first in
          let unrounded : lost (offset_fraction s guard) ≡ 0 =
          ap (λ v. if not (unsigned_abs v % unsigned_abs (offset_fraction s guard).den == 0) then 1 else 0) no
          ∙ ap (λ k. if not (k == 0) then 1 else 0) (zero-mod (unsigned_abs (offset_fraction s guard).den)) in
          let flat : floor (offset_fraction s guard) ≡ pos 0 =
          zero-floor (floor (offset_fraction s guard)) Q some (omega (arith, ints, plain.low, no)) (omega (arith, ints, plain.high, no, ap (λ k. (0 + 2 * k) * Q) unrounded)) in
          subst (λ k. IsNear (units s) (pos 0) k 0 (lost (offset_fraction s guard))) (sym flat)
          (subst (λ k. IsNear (units s) (pos 0) (pos 0) 0 k) (sym unrounded) (near-none (units s)))
      by false e =
          let one : share s guard x (offset_term s) ≡ share s guard x (offset_term s) +ℤ pos 0 = omega (arith, ints) in
          subst (λ v. IsNear (units s) v (floor (offset_fraction s guard)) 0 (lost (offset_fraction s guard))) one
          (moved-near s (offset_term s) guard ((small-terms s accepted).offset e) s.offset (floor (offset_fraction s guard)) 0
          (lost (offset_fraction s guard)) plain)

  -- all terms
  module _ (x : (input : ℕ) → ℤ) (number sum : ℤ) (roundeds cuts : ℕ) (near : IsNear (units s) number sum roundeds cuts)
      (all : number +ℤ total (share s guard x) (offset_terms s) ≡ total (share s guard x) (terms_of s))
      (same_rounded : roundeds ≡ tables s guard) (same_cut : cuts + lost (offset_fraction s guard) ≡ floors s guard) where
    abbrev e : ℤ
    e = sum +ℤ floor (offset_fraction s guard)

    abbrev N : ℤ
    N = raised s (λ t. t.number x)

    pub all-near : IsNear (units s) (N *ℤ pos (2 ^ guard)) e (tables s guard) (floors s guard)
    all-near =
        let both = near-sum (units s) number (total (share s guard x) (offset_terms s)) sum (floor (offset_fraction s guard)) roundeds 0 cuts
        (lost (offset_fraction s guard)) near (offset-near x) in
        let whole : number +ℤ total (share s guard x) (offset_terms s) ≡ N *ℤ pos (2 ^ guard) =
        all ∙ total-times (λ t. t.number x *ℤ pos (2 ^ height s t)) (pos (2 ^ guard)) (terms_of s) in
        let j : roundeds + 0 ≡ tables s guard = omega (arith, same_rounded) in
        subst (λ v. IsNear (units s) v e (tables s guard) (floors s guard)) whole
        (subst (λ k. IsNear (units s) (number +ℤ total (share s guard x) (offset_terms s)) e (tables s guard) k) same_cut
        (subst (λ k. IsNear (units s) (number +ℤ total (share s guard x) (offset_terms s)) e k (cuts + lost (offset_fraction s guard))) j both))

    abbrev y : ℤ
    y = int_div_euclid (e +ℤ pos (rounding s guard)) (pos (2 ^ guard))

    pub is-floor : IsFloor (e +ℤ pos (rounding s guard)) (pos (2 ^ guard)) y
    is-floor = floor_is (e +ℤ pos (rounding s guard)) (pos (2 ^ guard)) (omega (arith, ints, pow_pos guard))

    den-units : (exact_sop s x).den ≡ pos (units s)
    den-units = den-natural s.den (2 ^ depth s) sop.numbers.positive

    pub good : (mark : Bool) → (IsTrue mark → sop_inexact s ≡ None) → IsGoodRatio (mode_of_exact mark) (exact_sop s x) y
    good false asked =
        subst (λ d. IsWithinOne N d y) (sym den-units)
        (rounded (units s) (2 ^ guard) (tables s guard) (floors s guard) (rounding s guard) N e y (units-some s sop) (pow_pos guard)
        (rounds-low s guard is_guard) (rounds-high s guard is_guard) all-near is-floor)
    good true asked =
        let none = asked refl in
        let flat : guard ≡ 0 = no-guard-bits s sop none guard is_guard in
        let lost = nothing-lost s sop none in
        let one : 2 ^ guard ≡ 1 = ap (λ k. 2 ^ k) flat in
        let j : tables s guard ≡ 0 = ap (tables s) flat ∙ lost.0 in
        let c : floors s guard ≡ 0 = ap (floors s) flat ∙ lost.1 in
        let nothing : rounding s guard ≡ 0 = omega (arith, one, j, c) in
        let unit : pos (2 ^ guard) ≡ pos 1 = ap pos one in
        let low : (pos 1 *ℤ y) ≤ℤ (e +ℤ pos 0) =
        subst (λ g. (g *ℤ y) ≤ℤ (e +ℤ pos 0)) unit (subst (λ k. (pos (2 ^ guard) *ℤ y) ≤ℤ (e +ℤ pos k)) nothing is-floor.0) in
        let high = subst (λ g. (e +ℤ pos (rounding s guard)) <ℤ (g *ℤ (y +ℤ pos 1))) unit is-floor.1 in
        let same : e ≡ y = omega (arith, ints, low, high, nothing) in
        let near = subst (λ k. IsNear (units s) (N *ℤ pos 1) e k 0) j
        (subst (λ k. IsNear (units s) (N *ℤ pos 1) e (tables s guard) k) c
        (subst (λ g. IsNear (units s) (N *ℤ g) e (tables s guard) (floors s guard)) unit all-near)) in
        ap (λ d. d *ℤ y) den-units ∙ ap (λ v. pos (units s) *ℤ v) (sym same) ∙ exact (units s) N e near

-- the width of an input's words
port-width : (s : Sop) (i : ℕ) → i < length s.inputs → slice_get (input_widths (input_net s)) i ≡ Some (format_of s i).width
port-width s i h = by s.inputs i h
  where
    by : (ps : List PortFormat) (i : ℕ) → i < length ps
        → slice_get (map (λ (p : List ℕ × ℕ). p.1) (map (λ (p : PortFormat). (p.name, p.format.width)) ps)) i ≡ Some (format_at ps i).width
    by [] i h = absurd (omega (arith, h))
    by (p ∷ ps) zero h = refl
    by (p ∷ ps) (suc i) h = by ps i (omega (arith, h))

module _ (s : Sop) (accepted : IsAcceptedSop s) (hold : SopsHold s) (guard : ℕ) (is_guard : IsGuard s guard) (fit : IsSmallGuard s guard)
    (w : Work) (stands : Stands s guard w) (summed : AreSummed s guard [] [] w)
    (after : Net) (n : ℕ) (is : IsSumOf w.net (with_offset s guard w).heap after.nodes n)
    (wide : slice_index (widths after.nodes) n ≡ heap_width s guard) (grown : HasGrown w.net after) (valid : IsValid after) where
  abbrev ports : List ℕ
  ports = input_widths (input_net s)

  abbrev out : ℕ
  out = (sop_format s).width

  abbrev from : Output
  from = record { name = codes "y"; from = record { node = n; high = heap_width s guard - 1; low = guard } }

  sop-is : IsSop s
  sop-is = accepted_sop s accepted

  whole-grown : HasGrown (input_net s) after
  whole-grown = grown-then (input_net s) w.net after stands.grown grown

  module _ (inputs : Inputs) (u : ℤ) (words : All (AreWords ports) inputs) where
    abbrev x : (input : ℕ) → ℤ
    x = numbers s inputs u

    -- the inputs are numbers of their formats
    of-formats : AreOf s x
    of-formats i within =
        let f = format_of s i in
        let size : length (input_at inputs i f.width u) ≡ f.width = input_at-width ports inputs words i f.width (port-width s i within) u in
        let some : 1 ≤ f.width = input_bit f (input_fits s i sop-is within) in
        subst (λ k. Holds f.signed k (x i)) size (val_holds (input_at inputs i f.width u) f (omega (arith, size, some)))

    long : length (flow after.nodes inputs n u) ≡ heap_width s guard
    long = flow-width after valid inputs (words-grown (input_net s) after whole-grown inputs words) n u ∙ wide

    -- the output's word has the value of the rounded sum
    good-output : (mark : Bool) → (IsTrue mark → sop_inexact s ≡ None)
        → IsGoodRatio (mode_of_exact mark) (exact_sop s x) (val (slice_flow after.nodes inputs from.from u) (sop_format s))
    good-output mark asked =
        subst (λ v. IsGoodRatio (mode_of_exact mark) (exact_sop s x) v) (sym value) (sums mark asked)
      where
        h : IsSummed s guard x [] [] (sum_at w inputs u)
        h = summed inputs u words

        same_rounded : h.rounded ≡ tables s guard
        same_rounded = omega (arith, h.all_rounded)

        same_cut : h.cut + lost (offset_fraction s guard) ≡ floors s guard
        same_cut = omega (arith, h.all_cut)

        K : ℤ
        K = floor (offset_fraction s guard)

        R : ℤ
        R = pos (rounding s guard)

        M : ℕ
        M = 2 ^ heap_width s guard

        Y : ℤ
        Y = y s accepted guard is_guard fit x h.number h.sum h.rounded h.cut h.near h.numbers same_rounded same_cut

        sums : (mark : Bool) → (IsTrue mark → sop_inexact s ≡ None) → IsGoodRatio (mode_of_exact mark) (exact_sop s x) Y
        sums = good s accepted guard is_guard fit x h.number h.sum h.rounded h.cut h.near h.numbers same_rounded same_cut

        total-is : nat (flow after.nodes inputs n u) ≡ residue ((h.sum +ℤ K) +ℤ R) M
        total-is =
            let at : ℕ → List Bool = λ n. flow w.net.nodes inputs n u in
            let one = with_constant w.heap K in
            is inputs u (words-grown (input_net s) w.net stands.grown inputs words)
            ∙ with_constant-sum at one R (pow_pos w.heap.width)
            ∙ ap (λ k. residue (pos k +ℤ R) (2 ^ w.heap.width)) (with_constant-sum at w.heap K (pow_pos w.heap.width))
            ∙ residue-then (pos (sum_at w inputs u) +ℤ K) R (2 ^ w.heap.width) (pow_pos w.heap.width)
            ∙ ap (λ k. residue ((pos (sum_at w inputs u) +ℤ K) +ℤ R) (2 ^ k)) stands.width
            ∙ ap (λ k. residue ((pos k +ℤ K) +ℤ R) M) h.is
            ∙ ap (λ v. residue v M) (moved (pos (residue h.sum M)) K R)
            ∙ residue-then h.sum (K +ℤ R) M (pow_pos (heap_width s guard))
            ∙ ap (λ v. residue v M) (sym (moved h.sum K R))
          where
            moved : (k m n : ℤ) → (k +ℤ m) +ℤ n ≡ k +ℤ (m +ℤ n)
            moved k m n = omega (arith, ints)

        word : List Bool
        word = flow after.nodes inputs n u

        turns : (k : ℤ) × (((h.sum +ℤ K) +ℤ R) +ℤ (pos M *ℤ k) ≡ pos (nat word))
        turns = residue_number ((h.sum +ℤ K) +ℤ R) M (nat word) (pow_pos (heap_width s guard)) total-is

        size : length word ≡ guard + out
        size = omega (arith, long)

        floor-of : IsFloor ((h.sum +ℤ K) +ℤ R) (pos (2 ^ guard)) Y
        floor-of = is-floor s accepted guard is_guard fit x h.number h.sum h.rounded h.cut h.near h.numbers same_rounded same_cut

        dropped : Y +ℤ (pos (2 ^ out) *ℤ turns.0) ≡ pos (nat (drop guard word))
        dropped =
            floor_dropped guard out word ((h.sum +ℤ K) +ℤ R) turns.0 Y size
            (ap (λ k. ((h.sum +ℤ K) +ℤ R) +ℤ (pos (2 ^ k) *ℤ turns.0)) long ∙ turns.1) floor-of

        rest : length (drop guard word) ≡ out
        rest = omega (arith, length-drop guard word, size)

        cut-is : take (heap_width s guard - 1 + 1 - guard) (drop guard word) ≡ drop guard word
        cut-is = take_all (heap_width s guard - 1 + 1 - guard) (drop guard word) (omega (arith, rest, fit.some))

        not-asked : IsTrue false → sop_inexact s ≡ None
        not-asked t = let clash : false ≡ true = t in let no : ⊥ = cc in absurd no

        holds : Holds (sop_format s).signed out Y
        holds = hold sop-is x of-formats Y (sums false not-asked)

        value : val (slice_flow after.nodes inputs from.from u) (sop_format s) ≡ Y
        value =
            ap (λ v. val v (sop_format s)) cut-is
            ∙ value_from_residue (drop guard word) (sop_format s) Y turns.0 (omega (arith, rest, fit.some))
            (ap (λ k. Y +ℤ (pos (2 ^ k) *ℤ turns.0)) rest ∙ dropped)
            (subst (λ k. Holds (sop_format s).signed k Y) (sym rest) holds)

  slice : slice_width from.from ≡ out
  slice = omega (arith, fit.some)

  pub fits-sop : (net : Net) → net ≡ record after { outputs = after.outputs ++ from ∷ [] } → IsValid net → FitsInEachMode (sop_operator s) net
  fits-sop net made whole =
      fits_each_mode (sop_operator s) net
      (λ mark mode. subst (FitsOperator (mode_of_exact mark) (sop_operator s)) (sym is-last) (fits mark (asked_whole mark (sop_operator s) mode)))
    where
      last : Net
      last = record { inputs = (input_net s).inputs; nodes = after.nodes; outputs = from ∷ [] }

      is-last : net ≡ last
      is-last =
          made
          ∙ ap (λ (is : List (List ℕ × ℕ)). record { inputs = is; nodes = after.nodes; outputs = after.outputs ++ from ∷ [] }) whole-grown.inputs
          ∙ ap (λ (os : List Output). record { inputs = (input_net s).inputs; nodes = after.nodes; outputs = os ++ from ∷ [] }) whole-grown.outputs

      fits : (mark : Bool) → (IsTrue mark → sop_inexact s ≡ None) → FitsOperator (mode_of_exact mark) (sop_operator s) last
      fits mark asked = record {
        valid = subst IsValid is-last whole;
        inputs = refl;
        outputs = ap (λ w. (codes "y", w) ∷ []) slice;
        delays = grown-few (input_net s) after whole-grown 0 (omega (arith, nodes-delays 0 s.inputs));
        good = λ inputs u words within range.
            let now : pos u ≡ pos u -ℤ pos 0 = omega (arith, ints) in
            subst (λ t. IsGoodRatio (mode_of_exact mark) (exact_sop s (λ i. val (input_at inputs i (format_of s i).width t) (format_of s i)))
            (val (slice_flow after.nodes inputs from.from (pos u)) (sop_format s))) now
            (good-output inputs (pos u) words mark asked);
      }
