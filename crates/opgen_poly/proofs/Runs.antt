-- The partial values of a polynomial, one after another, and the net that they lead to.
use Rattle.std.proofs.Common.{◌≡◌, ℕ, zero, suc, ◌+◌, ◌-◌, ◌*◌, ◌^◌, ◌<◌, ◌≤◌, Bool, List, [], ◌∷◌, ◌++◌, length, drop, map, codes, sym, ap, ◌∙◌, subst, arith, pow-add}
use Rattle.std.specs.Prelude.{ℤ, pos, ◌+ℤ◌, ◌*ℤ◌, ◌<ℤ◌, ◌≤ℤ◌, All}
use Rattle.std.specs.Int.{int_div_euclid}
use Rattle.std.proofs.Math.Nat.{two-pow-succ}
use Rattle.std.proofs.lemmas.Int.{ints}
use Rattle.std.proofs.lemmas.List.{take_all, length-drop}
use Rattle.std.proofs.lemmas.Nat.{pow_pos}
use Rattle.opgen_num.specs.Floors.{IsFloor}
use Rattle.opgen_num.specs.Formats.{Holds}
use Rattle.opgen_num.specs.Rounding.{IsWithinOne, distance, nearest}
use Rattle.opgen_num.specs.Words.{int, val, nat}
use Rattle.opgen_num.proofs.Integers.{product_assoc}
use Rattle.opgen_num.proofs.RangeWidth.{count-holds}
use Rattle.opgen_num.proofs.Residues.{value_from_residue}
use Rattle.opgen_num.proofs.Rounded.{floor_is, floor_dropped}
use Rattle.opgen_num.proofs.NearestNumbers.{nearest-order}
use Rattle.opgen_design.specs.Run.{AreWords}
use Rattle.opgen_design.specs.Value.{cut}
use Rattle.opgen_net.specs.declared.net.Output.{Output}
use Rattle.opgen_net.specs.Delays.{PassesAtMost}
use Rattle.opgen_net.specs.Flow.{Inputs, flow, slice_flow}
use Rattle.opgen_net.specs.Grown.{HasGrown}
use Rattle.opgen_net.specs.Valid.{IsValid, slice_width, input_widths}
use Rattle.opgen_net.proofs.Appending.{valid-output}
use Rattle.opgen_net.proofs.Grown.{grown-few, grown-then, grown-same, grown-flow}
use Rattle.opgen_net.proofs.Later.{node_there}
use Rattle.opgen_kinds.specs.declared.poly.Poly.{Poly as Polynomial}
use Rattle.opgen_kinds.specs.Horner.{degree, result_places, poly_guard, all_guarded, low_end, high_end, result_low, result_high}
use Rattle.opgen_kinds.specs.Poly.{exact_poly, terms_from, poly_format, IsPoly}
use Rattle.opgen_kinds.proofs.of_kind.Results.{guard_some, partial_bits, poly_width}
use Rattle.opgen_poly.specs.declared.steps.Partial.{Partial}
use Rattle.opgen_poly.specs.Near.{ArePartialsNear, IsPartial, IsLessThanHalves, exact_from, halves_from, input_number}
use Rattle.opgen_poly.specs.Recipe.{after, net_of_poly, partial_from, rounding, summed, width_at, with_input}
use Rattle.opgen_poly.proofs.Cores.{rounded-floor, rounded-is, rounded-near, times}
use Rattle.opgen_poly.proofs.FirstLaws.{first-partial}
use Rattle.opgen_poly.proofs.StepLaws.{AreInputs, IsStepSum, step-partial, step-grown, step-sum, sum-is, sum-wide, sum-length, sum-grown, from-input, whole, y, floor, ends, near}
use Rattle.opgen_poly.proofs.Values.{den_of, unit_of, scale_of, den_is, held}

module _ (p : Polynomial) (fits : IsPoly p) where
  abbrev n : ℕ
  n = degree p

  same-place : (i j : ℕ) (s : Partial) → i ≡ j → IsPartial p i s → IsPartial p j s
  same-place i j s e h = subst (λ k. IsPartial p k s) e h

  pub after-partial : (k : ℕ) → k + 1 ≤ n → IsPartial p (n - k) (after p k)
  after-partial zero h = same-place n (n - 0) (after p zero) (omega arith) (first-partial p fits)
  after-partial (suc k) h =
      let before = same-place (n - k) (n - suc k + 1) (after p k) (omega (arith, h)) (after-partial k (omega (arith, h))) in
      step-partial p fits (n - suc k) (omega (arith, h, fits.some)) (after p k) before (omega (arith, h))

  -- nothing that stood is changed
  pub after-grown : (j k : ℕ) → j + k + 1 ≤ n → HasGrown (after p k).net (after p (j + k)).net
  after-grown zero k h =
      let e : k ≡ 0 + k = omega arith in
      subst (λ m. HasGrown (after p k).net (after p m).net) e (grown-same (after p k).net)
  after-grown (suc j) k h =
      let before = same-place (n - (j + k)) (n - suc (j + k) + 1) (after p (j + k)) (omega (arith, h)) (after-partial (j + k) (omega (arith, h))) in
      let e : suc (j + k) ≡ suc j + k = omega arith in
      subst (λ m. HasGrown (after p k).net (after p m).net) e
      (grown-then (after p k).net (after p (j + k)).net (after p (suc (j + k))).net (after-grown j k (omega (arith, h)))
      (step-grown p fits (n - suc (j + k)) (omega (arith, h, fits.some)) (after p (j + k)) before (omega (arith, h))))

  -- the last step
  abbrev pub last : Partial
  last = partial_from p 1

  pub last-partial : IsPartial p (0 + 1) last
  last-partial = same-place (n - (n - 1)) (0 + 1) last (omega (arith, fits.some)) (after-partial (n - 1) (omega (arith, fits.some)))

  pub within : 0 + 1 < length p.coefs
  within = omega (arith, fits.some)

  abbrev pub end : Partial
  end = summed p 0 last

  abbrev pub low_bit : ℕ
  low_bit = p.input.width + poly_guard p

  abbrev pub output : Output
  output = record { name = codes "y"; from = record { node = end.node; high = low_bit + (poly_format p).width - 1; low = low_bit } }

  end-grown : HasGrown (with_input p) end.net
  end-grown = from-input p fits 0 within last last-partial

  pub made-inputs : (net_of_poly p).inputs ≡ (codes "x", p.input.width) ∷ []
  made-inputs = end-grown.inputs

  pub made-outputs : (net_of_poly p).outputs ≡ output ∷ []
  made-outputs = ap (λ os. os ++ output ∷ []) end-grown.outputs

  -- no node is a delay
  pub made-passes : PassesAtMost 0 (net_of_poly p).nodes
  made-passes = grown-few (with_input p) end.net end-grown 0 (omega arith)

  some-output : 1 ≤ (poly_format p).width
  some-output = (poly_width p fits).0

  pub output-wide : slice_width output.from ≡ (poly_format p).width
  output-wide = omega (arith, some-output)

  pub made-valid : IsValid (net_of_poly p)
  made-valid =
      valid-output end.net output (sum-is p fits 0 within last last-partial).later.valid
      (omega (arith, some-output), omega (arith, sum-wide p fits 0 within last last-partial, some-output))

  pub words-for : (ins : Inputs) → All (AreWords (input_widths (net_of_poly p))) ins → AreInputs p ins
  words-for ins h = subst (λ (is : List (List ℕ × ℕ)). All (AreWords (map (λ i. i.1) is)) ins) made-inputs h

  -- how near the partial values are in the whole net
  pub partials-near : ArePartialsNear p (net_of_poly p)
  partials-near place some below ins t words =
      let k = n - place in
      let s = after p k in
      let is : IsPartial p place s = same-place (n - k) place s (omega (arith, below)) (after-partial k (omega (arith, some, below))) in
      let there = node_there s.net s.node (width_at p place) (omega (arith, (partial_bits p place fits).0)) is.wide in
      let rest : place - 1 + k ≡ n - 1 = omega (arith, some, below) in
      let grown : HasGrown s.net last.net = subst (λ m. HasGrown s.net (after p m).net) rest (after-grown (place - 1) k (omega (arith, some, below))) in
      let all : HasGrown s.net end.net = grown-then s.net last.net end.net grown (sum-grown p fits 0 within last last-partial) in
      subst (IsLessThanHalves (halves_from p place) (exact_from p place (input_number p ins t)))
      (sym (ap int (grown-flow s.net end.net all ins s.node t there))) (is.nearer ins t (words-for ins words) below)

  -- the output
  module _ (ins : Inputs) (t : ℤ) (words : AreInputs p ins) where
    abbrev G : ℕ
    G = 2 ^ poly_guard p

    abbrev K : ℕ
    K = 2 ^ (poly_guard p - 1)

    abbrev W : ℕ
    W = unit_of p

    abbrev V : ℕ
    V = (poly_format p).width

    abbrev sum : List Bool
    sum = flow end.net.nodes ins end.node t

    abbrev x : ℕ
    x = input_number p ins t

    abbrev step : IsStepSum p 0 x (int (flow last.net.nodes ins last.node t)) sum
    step = step-sum p fits 0 within last last-partial ins t words

    abbrev total : ℤ
    total = whole p fits 0 within last last-partial ins t words

    abbrev h : ℤ
    h = y p fits 0 within last last-partial ins t words

    abbrev all : ℤ
    all = total +ℤ pos (W * K)

    abbrev pub out : ℤ
    out = int_div_euclid all (pos (W * G))

    halves : G ≡ K + K
    halves =
        let one : suc (poly_guard p - 1) ≡ poly_guard p = omega (arith, guard_some p fits) in
        sym (ap (λ k. 2 ^ k) one) ∙ two-pow-succ (poly_guard p - 1)

    some-w : 0 < W
    some-w = pow_pos p.input.width

    some-g : 0 < G
    some-g = pow_pos (poly_guard p)

    power : 2 ^ low_bit ≡ W * G
    power = pow-add 2 p.input.width (poly_guard p)

    half-power : rounding p 0 ≡ W * K
    half-power =
        let split : p.input.width + poly_guard p - 1 ≡ p.input.width + (poly_guard p - 1) = omega (arith, guard_some p fits) in
        ap (λ k. 2 ^ k) split ∙ pow-add 2 p.input.width (poly_guard p - 1)

    positive : pos 0 <ℤ pos (W * G)
    positive = omega (arith, ints, pow_pos low_bit, power)

    out-floor : IsFloor all (pos (W * G)) out
    out-floor = floor_is all (pos (W * G)) positive

    h-floor : IsFloor total (pos W) h
    h-floor = floor p fits 0 within last last-partial ins t words

    out-is : out ≡ nearest h (pos G)
    out-is = rounded-is W G K total h out halves some-w some-g h-floor out-floor

    between : (result_low p ≤ℤ out) × (out ≤ℤ result_high p)
    between =
        let (low, high) = ends p fits 0 within last last-partial ins t words in
        let some : pos 0 <ℤ pos G = omega (arith, ints, some-g) in (
          subst (λ z. result_low p ≤ℤ z) (sym out-is) (nearest-order (low_end (all_guarded p)) h (pos G) some low),
          subst (λ z. z ≤ℤ result_high p) (sym out-is) (nearest-order h (high_end (all_guarded p)) (pos G) some high),
        )

    holds : Holds (poly_format p).signed V out
    holds = held (result_low p) (result_high p) out between.0 between.1

    -- its word
    sum-long : length sum ≡ low_bit + V
    sum-long = sum-length p fits 0 within last last-partial ins t words

    abbrev kept_bits : List Bool
    kept_bits = drop low_bit sum

    kept-long : length kept_bits ≡ V
    kept-long = omega (arith, length-drop low_bit sum, sum-long)

    number : all +ℤ (pos (2 ^ length sum) *ℤ step.turns) ≡ pos (nat sum)
    number =
        let k = ap (λ m. pos (2 ^ m) *ℤ step.turns) sum-long in
        omega (arith, ints, step.number_is, k, half-power)

    dropped : out +ℤ (pos (2 ^ V) *ℤ step.turns) ≡ pos (nat kept_bits)
    dropped =
        floor_dropped low_bit V sum all step.turns out sum-long number
        (subst (λ m. IsFloor all (pos m) out) (sym power) out-floor)

    kept-value : val kept_bits (poly_format p) ≡ out
    kept-value =
        value_from_residue kept_bits (poly_format p) out step.turns (omega (arith, kept-long, some-output))
        (ap (λ m. out +ℤ (pos (2 ^ m) *ℤ step.turns)) kept-long ∙ dropped)
        (subst (λ m. Holds (poly_format p).signed m out) (sym kept-long) holds)

    cut-is : cut (low_bit + V - 1) low_bit sum ≡ kept_bits
    cut-is = take_all (low_bit + V - 1 + 1 - low_bit) kept_bits (omega (arith, kept-long, some-output))

    pub output-value : val (slice_flow end.net.nodes ins output.from t) (poly_format p) ≡ out
    output-value = ap (λ w. val w (poly_format p)) cut-is ∙ kept-value

    -- less than one from the exact value
    abbrev exact_num : ℤ
    exact_num = (exact_poly p (pos x)).num

    abbrev D : ℕ
    D = den_of p * 2 ^ (p.input.width * n)

    den-is : p.den *ℤ pos (2 ^ (p.input.width * n)) ≡ pos D
    den-is = ap (λ z. z *ℤ pos (2 ^ (p.input.width * n))) (den_is p fits) ∙ times (den_of p) (2 ^ (p.input.width * n))

    none : n - 0 ≡ n
    none = omega arith

    from-num : (exact_from p 0 x).num ≡ exact_num *ℤ pos G
    from-num =
        let T = terms_from 0 p.coefs p.input.width n x in
        let units : pos (scale_of p) ≡ pos (2 ^ result_places p) *ℤ pos G =
        ap pos (pow-add 2 (result_places p) (poly_guard p)) ∙ omega (arith, ints) in
        ap (λ k. terms_from 0 p.coefs p.input.width k x *ℤ pos (scale_of p)) none
        ∙ ap (λ z. T *ℤ z) units
        ∙ sym (product_assoc T (pos (2 ^ result_places p)) (pos G))

    from-den : (exact_from p 0 x).den ≡ pos D
    from-den = ap (λ k. p.den *ℤ pos (2 ^ (p.input.width * k))) none ∙ den-is

    abbrev m : ℕ
    m = halves_from p 0

    near-all : (pos 2 *ℤ pos (distance (pos D *ℤ h) (exact_num *ℤ pos G))) <ℤ (pos D *ℤ pos m)
    near-all =
        subst (λ d. (pos 2 *ℤ pos (distance (d *ℤ h) (exact_num *ℤ pos G))) <ℤ (d *ℤ pos m)) from-den
        (subst (λ v. (pos 2 *ℤ pos (distance ((exact_from p 0 x).den *ℤ h) v)) <ℤ ((exact_from p 0 x).den *ℤ pos m)) from-num
        (near p fits 0 within last last-partial ins t words))

    few : m ≤ G
    few = omega (arith, count-holds (3 * n), none)

    pub output-near : IsWithinOne exact_num (exact_poly p (pos x)).den out
    output-near =
        subst (λ d. IsWithinOne exact_num d out) (sym den-is)
        (rounded-near D G m h out exact_num some-g few (rounded-floor W G K total h out halves some-w some-g h-floor out-floor)
        (omega (arith, ints, near-all, times D m)) (omega (arith, ints, near-all, times D m)))
