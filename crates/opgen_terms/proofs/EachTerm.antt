-- Terms of sums of products: where they stand among the terms, and how far their numbers go.
use Rattle.std.proofs.Common.{ℕ, zero, suc, ◌≡◌, ◌+◌, ◌*◌, ◌-◌, ◌^◌, ◌<◌, ◌≤◌, ◌∙◌, Bool, true, false, List, [], ◌∷◌, length, get_or, Some, refl, sym, ap, subst, max, arith, ⊎_elim, if◌then◌else◌}
use Rattle.std.proofs.lemmas.Bool.{cases_lt, eqb-true}
use Rattle.std.proofs.lemmas.Int.{ints}
use Rattle.std.proofs.lemmas.List.{get_or-map, get_or_append_left, get_or-append_right, length-map}
use Rattle.std.proofs.lemmas.Option.{get_or_from_slice_get, slice_get-get_or}
use Rattle.std.proofs.Math.Nat.{mul-le-mul, mul-le-mul_left}
use Rattle.std.specs.Prelude.{ℤ, pos, negsuc, neg_ℤ, ◌≤ℤ◌, ◌*ℤ◌, unsigned_abs, slice_get, slice_index, nat_eq, nat_le, map, ◌++◌}
use Rattle.opgen_num.proofs.BitLength.{power_order}
use Rattle.opgen_num.proofs.Integers.{product_order}
use Rattle.opgen_num.specs.declared.format.Format.{Format}
use Rattle.opgen_terms.specs.declared.sop.Sop.{Sop}
use Rattle.opgen_terms.specs.declared.sop.Scaled.{Scaled}
use Rattle.opgen_terms.specs.declared.sop.Times.{Times}
use Rattle.opgen_terms.specs.Sop.{IsSop, IsScaled, IsTimes, Term, AreOf, format_of, size_of, square_reach, times_reach, turned_if, signed_if, scaled_term, times_term, offset_term, offset_terms, term_at, last_numbers}
use Rattle.opgen_ports.specs.declared.ports.PortFormat.{PortFormat}
use Rattle.opgen_ports.specs.declared.reach.Reach.{Reach}
use Rattle.opgen_ports.specs.Ports.{port, number_of}
use Rattle.opgen_ports.specs.Ranges.{IsInput}
use Rattle.opgen_ports.specs.Reaches.{reach_of, reach_over, reach_of_product, rises, falls}
use Rattle.opgen_ports.specs.Spans.{IsOf}
use Rattle.opgen_ports.proofs.Bounds.{products, few_units}
use Rattle.opgen_ports.proofs.Cycles.{format_at-listed}
use Rattle.opgen_ports.proofs.InputPorts.{input_bit}
use Rattle.opgen_ports.proofs.Magnitudes.{unsigned_abs-product, zero_of}
use Rattle.opgen_num.proofs.Values.{val_holds}
use Rattle.opgen_num.specs.WordLaws.{length-word}
use Rattle.opgen_num.specs.Formats.{Holds}
use Rattle.opgen_num.specs.Words.{word}
use Rattle.opgen_ports.proofs.Reached.{IsWithinReach, product_span, held-within, sum_within, rises-cons, falls-cons}
use Rattle.opgen_ports.proofs.Widths.{reach_within}

-- the format of an input that is there
pub format_there : (s : Sop) (input : ℕ) (p : PortFormat) → slice_get s.inputs input ≡ Some p → input < length s.inputs
    → p.format ≡ format_of s input
format_there s input p e here =
    ap (λ (r : PortFormat). r.format) (sym (get_or_from_slice_get s.inputs input p p e)) ∙ format_at-listed s.inputs input p here

pub input_fits : (s : Sop) (input : ℕ) → IsSop s → input < length s.inputs → IsInput (format_of s input)
input_fits s input is here =
    let p = port [] (format_of s input) in
    subst IsInput (format_at-listed s.inputs input p here) (is.inputs.formats input p here)

pub size_bound : (f : Format) → size_of f ≤ 2 ^ f.width
size_bound f =
    let (below, above) = reach_within f.signed f.width in
    omega (arith, below, above)

pub size_small : (f : Format) → IsInput f → size_of f ≤ 2 ^ 48
size_small f is = omega (arith, size_bound f, power_order f.width 48 is.most)

-- the terms by their places
pub scaled_place : (s : Sop) (place : ℕ) (t : Scaled) → place < length s.scaled → slice_get s.scaled place ≡ Some t
    → term_at s place ≡ scaled_term s t
scaled_place s place t here e =
    let long : place < length (map (scaled_term s) s.scaled) = omega (arith, here, length-map s.scaled (scaled_term s)) in
    get_or_append_left (map (scaled_term s) s.scaled) (map (times_term s) s.products ++ offset_terms s) (offset_term s) place long
    ∙ get_or-map (scaled_term s) s.scaled place t (offset_term s) here ∙ ap (scaled_term s) (get_or_from_slice_get s.scaled place t t e)

after_scaled : (s : Sop) (place : ℕ) → length s.scaled ≤ place
    → term_at s place ≡ get_or (map (times_term s) s.products ++ offset_terms s) (place - length s.scaled) (offset_term s)
after_scaled s place far = get_or-append_right (map (scaled_term s) s.scaled) (map (times_term s) s.products ++ offset_terms s)
    (length s.scaled) place (offset_term s) (length-map s.scaled (scaled_term s)) far

pub times_place : (s : Sop) (place : ℕ) (t : Times) → length s.scaled ≤ place → place - length s.scaled < length s.products
    → slice_get s.products (place - length s.scaled) ≡ Some t → term_at s place ≡ times_term s t
times_place s place t far here e =
    let i = place - length s.scaled in
    let long : i < length (map (times_term s) s.products) = omega (arith, here, length-map s.products (times_term s)) in
    after_scaled s place far ∙ get_or_append_left (map (times_term s) s.products) (offset_terms s) (offset_term s) i long
    ∙ get_or-map (times_term s) s.products i t (offset_term s) here ∙ ap (times_term s) (get_or_from_slice_get s.products i t t e)

alone : (none : Bool) (place : ℕ) (t : Term) → get_or (if none then [] else t ∷ []) place t ≡ t
alone true place t = refl
alone false zero t = refl
alone false (suc place) t = refl

pub offset_place : (s : Sop) (place : ℕ) → length s.scaled ≤ place → length s.products ≤ place - length s.scaled
    → term_at s place ≡ offset_term s
offset_place s place far further =
    after_scaled s place far ∙ get_or-append_right (map (times_term s) s.products) (offset_terms s) (length s.products)
    (place - length s.scaled) (offset_term s) (length-map s.products (times_term s)) further
    ∙ alone (nat_eq (unsigned_abs s.offset) 0) (place - length s.scaled - length s.products) (offset_term s)

-- what holds of each term holds of the term at a place
pub each_term : (P : Term → Type 0) (s : Sop) → IsSop s → ((t : Scaled) → IsScaled (length s.inputs) t → P (scaled_term s t))
    → ((t : Times) → IsTimes (length s.inputs) t → P (times_term s t)) → P (offset_term s) → (place : ℕ) → P (term_at s place)
each_term P s is of_scaled of_times of_offset place =
    ⊎_elim
    (λ (here : place < length s.scaled).
    let d : Scaled = record { input = 0; coefficient = pos 0 } in
    let t = get_or s.scaled place d in
    subst P (sym (scaled_place s place t here (slice_get-get_or s.scaled place d here))) (of_scaled t (is.terms.scaled place d here)))
    (λ (far : length s.scaled ≤ place).
    ⊎_elim
    (λ (here : place - length s.scaled < length s.products).
    let d : Times = record { a = 0; b = 0; negative = false } in
    let i = place - length s.scaled in
    let t = get_or s.products i d in
    subst P (sym (times_place s place t far here (slice_get-get_or s.products i d here))) (of_times t (is.terms.products i d here)))
    (λ (further : length s.products ≤ place - length s.scaled). subst P (sym (offset_place s place far further)) of_offset)
    (cases_lt (place - length s.scaled) (length s.products)))
    (cases_lt place (length s.scaled))

-- how far a constant times an input goes
one_sided : (c : ℤ) (below above : ℕ) → (rises (c ∷ []) * below + falls (c ∷ []) * above ≤ unsigned_abs c * max below above)
    × (rises (c ∷ []) * above + falls (c ∷ []) * below ≤ unsigned_abs c * max below above)
one_sided (pos n) below above =
    let rise : rises (pos n ∷ []) ≡ n = omega (arith, rises-cons (pos n) []) in
    let fall : falls (pos n ∷ []) ≡ 0 = omega (arith, falls-cons (pos n) []) in
    let first : n * below ≤ n * max below above = mul-le-mul_left n (omega arith) in
    let second : n * above ≤ n * max below above = mul-le-mul_left n (omega arith) in
    rw (rise, fall) (omega (arith, first), omega (arith, second))
one_sided (negsuc n) below above =
    let rise : rises (negsuc n ∷ []) ≡ 0 = omega (arith, rises-cons (negsuc n) []) in
    let fall : falls (negsuc n ∷ []) ≡ n + 1 = omega (arith, falls-cons (negsuc n) []) in
    let first : (n + 1) * below ≤ (n + 1) * max below above = mul-le-mul_left (n + 1) (omega arith) in
    let second : (n + 1) * above ≤ (n + 1) * max below above = mul-le-mul_left (n + 1) (omega arith) in
    rw (rise, fall) (omega (arith, second), omega (arith, first))

pub scaled_bound : (f : Format) (c : ℤ) → ((reach_over f (c ∷ [])).below ≤ unsigned_abs c * size_of f)
    × ((reach_over f (c ∷ [])).above ≤ unsigned_abs c * size_of f)
scaled_bound f c = one_sided c (reach_of f).below (reach_of f).above

-- how far a product goes
pub times_bound : (s : Sop) (t : Times) → ((times_reach s t).below ≤ size_of (format_of s t.a) * size_of (format_of s t.b))
    × ((times_reach s t).above ≤ size_of (format_of s t.a) * size_of (format_of s t.b))
times_bound s t = go (nat_eq t.a t.b) refl
  where
    f : Format
    f = format_of s t.a

    g : Format
    g = format_of s t.b

    product : (a b c d : ℕ) → a ≤ c → b ≤ d → a * b ≤ c * d
    product a b c d h i = mul-le-mul {n₁ = a} {m₁ = b} {n₂ = c} {m₂ = d} h i

    go : (same : Bool) → nat_eq t.a t.b ≡ same
        → ((if same then square_reach f else reach_of_product f g).below ≤ size_of f * size_of g)
        × ((if same then square_reach f else reach_of_product f g).above ≤ size_of f * size_of g)
    go true e =
        let equal : t.a ≡ t.b = eqb-true t.a t.b e in
        let other : size_of f * size_of f ≡ size_of f * size_of g = ap (λ k. size_of f * size_of (format_of s k)) equal in
        (omega arith, omega (arith, other))
    go false e =
        let first = product (reach_of f).below (reach_of g).above (size_of f) (size_of g) (omega arith) (omega arith) in
        let second = product (reach_of f).above (reach_of g).below (size_of f) (size_of g) (omega arith) (omega arith) in
        let third = product (reach_of f).above (reach_of g).above (size_of f) (size_of g) (omega arith) (omega arith) in
        let fourth = product (reach_of f).below (reach_of g).below (size_of f) (size_of g) (omega arith) (omega arith) in
        (omega (arith, first, second), omega (arith, third, fourth))

pub turned_bound : (negative : Bool) (r : Reach) (most : ℕ) → r.below ≤ most → r.above ≤ most
    → ((turned_if negative r).below ≤ most) × ((turned_if negative r).above ≤ most)
turned_bound true r most below above = (above, below)
turned_bound false r most below above = (below, above)

pub times_small : (s : Sop) (t : Times) → IsSop s → IsTimes (length s.inputs) t
    → size_of (format_of s t.a) * size_of (format_of s t.b) ≤ 2 ^ 96
times_small s t is fits = products (size_of (format_of s t.a)) (size_of (format_of s t.b)) 48 48
    (size_small (format_of s t.a) (input_fits s t.a is fits.a)) (size_small (format_of s t.b) (input_fits s t.b is fits.b))

-- What a term's numbers are at most.
pub record IsSized (t : Term) : Type 0 where
  pub least : unsigned_abs t.least ≤ t.size
  pub most : unsigned_abs t.most ≤ t.size
  pub size : t.size ≤ 2 ^ 126
  pub factor : unsigned_abs t.factor ≤ 2 ^ 30
  pub low : negsuc 191 ≤ℤ t.shift
  pub high : t.shift ≤ℤ pos 192

scaled_sized : (s : Sop) (t : Scaled) → IsSop s → IsScaled (length s.inputs) t → IsSized (scaled_term s t)
scaled_sized s t is fits =
    let f = format_of s t.input in
    let (below, above) = scaled_bound f t.coefficient in
    let input = input_fits s t.input is fits.input in
    let small : unsigned_abs t.coefficient * size_of f ≤ 2 ^ (30 + 48) =
    products (unsigned_abs t.coefficient) (size_of f) 30 48 fits.coefficient (size_small f input) in
    record {
      least = omega (arith, ints, below);
      most = omega (arith, ints, above);
      size = omega (arith, small);
      factor = fits.coefficient;
      low = omega (arith, ints, input.lsb.0, is.numbers.out_lsb.1);
      high = omega (arith, ints, input.lsb.1, is.numbers.out_lsb.0);
    }

-- a number of the terms times the denominator
times_den : (den n : ℤ) (k most : ℕ) → unsigned_abs den ≤ k → unsigned_abs n ≤ most → unsigned_abs (den *ℤ n) ≤ unsigned_abs den * most
times_den den n k most few small =
    let step : unsigned_abs den * unsigned_abs n ≤ unsigned_abs den * most = mul-le-mul_left (unsigned_abs den) small in
    omega (arith, step, unsigned_abs-product den n)

times_sized : (s : Sop) (t : Times) → IsSop s → IsTimes (length s.inputs) t → IsSized (times_term s t)
times_sized s t is fits =
    let size = size_of (format_of s t.a) * size_of (format_of s t.b) in
    let plain = times_bound s t in
    let (below, above) = turned_bound t.negative (times_reach s t) size plain.0 plain.1 in
    let a = input_fits s t.a is fits.a in
    let b = input_fits s t.b is fits.b in
    let den = few_units (2 ^ 30) s.den is.numbers.positive is.numbers.small in
    let small : unsigned_abs s.den * size ≤ 2 ^ (30 + 96) = products (unsigned_abs s.den) size 30 96 den (times_small s t is fits) in
    record {
      least = times_den s.den (neg_ℤ (pos (turned_if t.negative (times_reach s t)).below)) (2 ^ 30) size den (omega (arith, ints, below));
      most = times_den s.den (pos (turned_if t.negative (times_reach s t)).above) (2 ^ 30) size den (omega (arith, ints, above));
      size = omega (arith, small);
      factor = den;
      low = omega (arith, ints, a.lsb.0, b.lsb.0, is.numbers.out_lsb.1);
      high = omega (arith, ints, a.lsb.1, b.lsb.1, is.numbers.out_lsb.0);
    }

offset_sized : (s : Sop) → IsSop s → IsSized (offset_term s)
offset_sized s is = record {
  least = omega arith;
  most = omega arith;
  size = omega (arith, is.numbers.offset);
  factor = is.numbers.offset;
  low = omega (arith, ints, is.numbers.out_lsb.1);
  high = omega (arith, ints, is.numbers.out_lsb.0);
}

pub sized : (s : Sop) (place : ℕ) → IsSop s → IsSized (term_at s place)
sized s place is = each_term IsSized s is (λ t fits. scaled_sized s t is fits) (λ t fits. times_sized s t is fits) (offset_sized s is) place

-- A term's number is from its least to its greatest.
abbrev pub IsBetween : (x : (input : ℕ) → ℤ) → Term → Type 0
IsBetween x t = (t.least ≤ℤ t.number x) × (t.number x ≤ℤ t.most)

scaled_between : (s : Sop) (t : Scaled) (x : (input : ℕ) → ℤ) → IsOf (format_of s t.input) (x t.input) → IsBetween x (scaled_term s t)
scaled_between s t x of =
    let f = format_of s t.input in
    let (low, high) = sum_within (reach_of f).below (reach_of f).above 0 (t.coefficient ∷ []) (λ ago. x t.input)
    (λ k. held-within f.signed f.width (x t.input) of) in
    (omega (arith, ints, low), omega (arith, ints, high))

square_within : (n : ℤ) (below above : ℕ) → IsWithinReach below above n → IsWithinReach 0 (max below above * max below above) (n *ℤ n)
square_within (pos n) below above (low, high) =
    let step = mul-le-mul {n₁ = n} {m₁ = n} {n₂ = max below above} {m₂ = max below above} (omega (arith, ints)) (omega (arith, ints)) in
    (omega (arith, ints), omega (arith, ints, step))
square_within (negsuc n) below above (low, high) =
    let step = mul-le-mul {n₁ = n + 1} {m₁ = n + 1} {n₂ = max below above} {m₂ = max below above} (omega (arith, ints)) (omega (arith, ints)) in
    (omega (arith, ints), omega (arith, ints, step))

times_within : (s : Sop) (t : Times) (x : (input : ℕ) → ℤ) → IsOf (format_of s t.a) (x t.a) → IsOf (format_of s t.b) (x t.b)
    → IsWithinReach (times_reach s t).below (times_reach s t).above (x t.a *ℤ x t.b)
times_within s t x of_a of_b = go (nat_eq t.a t.b) refl
  where
    f : Format
    f = format_of s t.a

    g : Format
    g = format_of s t.b

    go : (same : Bool) → nat_eq t.a t.b ≡ same
        → IsWithinReach (if same then square_reach f else reach_of_product f g).below (if same then square_reach f else reach_of_product f g).above
        (x t.a *ℤ x t.b)
    go true e =
        let equal : t.a ≡ t.b = eqb-true t.a t.b e in
        subst (λ k. IsWithinReach (square_reach f).below (square_reach f).above (x t.a *ℤ x k)) equal
        (square_within (x t.a) (reach_of f).below (reach_of f).above (held-within f.signed f.width (x t.a) of_a))
    go false e = product_span (reach_of f).below (reach_of f).above (reach_of g).below (reach_of g).above (x t.a) (x t.b)
        (held-within f.signed f.width (x t.a) of_a) (held-within g.signed g.width (x t.b) of_b)

turned_within : (negative : Bool) (r : Reach) (n : ℤ) → IsWithinReach r.below r.above n
    → IsWithinReach (turned_if negative r).below (turned_if negative r).above (signed_if negative n)
turned_within true r n (low, high) = (omega (arith, ints, low, high), omega (arith, ints, low, high))
turned_within false r n within = within

times_between : (s : Sop) (t : Times) (x : (input : ℕ) → ℤ) → IsSop s → IsOf (format_of s t.a) (x t.a) → IsOf (format_of s t.b) (x t.b)
    → IsBetween x (times_term s t)
times_between s t x is of_a of_b =
    let (low, high) = turned_within t.negative (times_reach s t) (x t.a *ℤ x t.b) (times_within s t x of_a of_b) in
    let r = turned_if t.negative (times_reach s t) in
    let n = signed_if t.negative (x t.a *ℤ x t.b) in
    let some : pos 0 ≤ℤ s.den = omega (arith, ints, is.numbers.positive) in
    (product_order s.den (neg_ℤ (pos r.below)) n some low, product_order s.den n (pos r.above) some high)

pub between : (s : Sop) (x : (input : ℕ) → ℤ) (place : ℕ) → IsSop s → AreOf s x → IsBetween x (term_at s place)
between s x place is of =
    each_term (IsBetween x) s is (λ t fits. scaled_between s t x (of t.input fits.input))
    (λ t fits. times_between s t x is (of t.a fits.a) (of t.b fits.b)) (omega (arith, ints), omega (arith, ints)) place

-- so it has no greater size than its ends
pub number_small : (s : Sop) (x : (input : ℕ) → ℤ) (place : ℕ) → IsSop s → AreOf s x
    → unsigned_abs ((term_at s place).number x) ≤ (term_at s place).size
number_small s x place is of =
    let (low, high) = between s x place is of in
    let ends = sized s place is in
    omega (arith, ints, low, high, ends.least, ends.most)

-- the numbers of the inputs in the last cycle
number_held : (f : Format) (bits : ℕ) → 1 ≤ f.width → IsOf f (number_of f bits)
number_held f bits some =
    let long = length-word f.width bits in
    subst (λ k. Holds f.signed k (number_of f bits)) long (val_holds (word f.width bits) f (omega (arith, long, some)))

pub last_of : (s : Sop) (history : List ℕ) → IsSop s → AreOf s (last_numbers s history)
last_of s history is input there =
    let f = format_of s input in
    let some = input_bit f (input_fits s input is there) in
    recent_of (nat_le ((0 + 1) * length s.inputs) (length history))
    (number_of f (slice_index history (length history - (0 + 1) * length s.inputs + input)))
    (number_held f (slice_index history (length history - (0 + 1) * length s.inputs + input)) some)
  where
    recent_of : (b : Bool) (n : ℤ) → IsOf (format_of s input) n → IsOf (format_of s input) (if b then n else pos 0)
    recent_of true n of = of
    recent_of false n of = zero_of (format_of s input)

pub number_sized : (s : Sop) (history : List ℕ) (place : ℕ) → IsSop s
    → unsigned_abs ((term_at s place).number (last_numbers s history)) ≤ (term_at s place).size
number_sized s history place is = number_small s (last_numbers s history) place is (last_of s history is)
