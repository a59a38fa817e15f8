-- What holds of sums of products: the format holds them, and they are within their limits.
use Rattle.std.proofs.Common.{ℕ, ◌≡◌, ◌+◌, ◌*◌, ◌^◌, ◌<◌, ◌≤◌, Bool, true, false, List, [], ◌∷◌, ◌++◌, map, if◌then◌else◌, get_or, refl, ap₂, subst, nat_lt, ⊎_elim, arith}
use Rattle.std.proofs.lemmas.Bool.{cases_lt, lt-ltb, le-ltb}
use Rattle.std.proofs.lemmas.Int.{ints}
use Rattle.std.proofs.lemmas.Nat.{pow_pos}
use Rattle.std.proofs.Math.Nat.{mul-le-mul}
use Rattle.std.specs.Prelude.{ℤ, pos, negsuc, neg_ℤ, ◌≤ℤ◌, ◌<ℤ◌, ◌+ℤ◌, ◌*ℤ◌, nat_eq, unsigned_abs}
use Rattle.opgen_num.specs.declared.mode.Mode.{Mode}
use Rattle.opgen_num.specs.Rounding.{IsGoodLinear}
use Rattle.opgen_num.proofs.Integers.{product_order, commuted}
use Rattle.opgen_terms.specs.declared.sop.TheConstants.{MAX_TOTAL_BITS}
use Rattle.opgen_terms.specs.declared.sop.Sop.{Sop}
use Rattle.opgen_terms.specs.declared.sop.Scaled.{Scaled}
use Rattle.opgen_terms.specs.declared.sop.Times.{Times}
use Rattle.opgen_terms.specs.Sop.{total, offset_terms, times_term, scaled_term, signed_if, IsSop, IsAcceptedSop, HasSmallShift, AreOf, SopsHold, Term, terms_of, term_at, offset_term, depth, height, raised, exact_sop, sop_reach, sop_places, total_bits, rounding_bits, sop_need, sop_meaning, sop_acceptance}
use Rattle.opgen_ports.specs.Good.{IsGoodRatio}
use Rattle.opgen_ports.specs.In128.{IsRatioIn128}
use Rattle.opgen_ports.specs.Limits.{most_signal}
use Rattle.opgen_ports.specs.Ports.{HasWidth}
use Rattle.opgen_ports.specs.Reaches.{in_units, width_of}
use Rattle.opgen_ports.proofs.Bounds.{few_units}
use Rattle.opgen_ports.proofs.Covered.{rounded_within, covered}
use Rattle.opgen_ports.proofs.In128.{small_in128}
use Rattle.opgen_ports.proofs.InputPorts.{all_one, input_bit}
use Rattle.opgen_ports.proofs.Magnitudes.{raised_within}
use Rattle.opgen_ports.proofs.Reached.{IsWithinReach, low_end, high_end, parts-above, parts-below}
use Rattle.opgen_ports.proofs.Versions.{signal_limit}
use Rattle.opgen_ports.proofs.Widths.{some_width}
use Rattle.opgen_ports.proofs.Accepted.{accepted_ranges, accepted_shift, accepted_width}
use Rattle.opgen_ports.proofs.Lawful.{IsLawful}
use Rattle.opgen_ports.proofs.Roundings.{positive_units}
use Rattle.opgen_terms.proofs.EachTerm.{between, number_small}
use Rattle.opgen_terms.proofs.AllTerms.{total_order, depth_few, raised_small, up_of_down, down_of_down}

-- each sum of numbers of the terms is from that of the least to that of the greatest
raised_order : (s : Sop) (f g : Term → ℤ) → ((place : ℕ) → f (term_at s place) ≤ℤ g (term_at s place)) → raised s f ≤ℤ raised s g
raised_order s f g each =
    total_order (λ t. f t *ℤ pos (2 ^ height s t)) (λ t. g t *ℤ pos (2 ^ height s t)) (terms_of s) (offset_term s)
    (λ i here. by_units (height s (term_at s i)) (f (term_at s i)) (g (term_at s i)) (each i))
  where
    by_units : (h : ℕ) (a b : ℤ) → a ≤ℤ b → (a *ℤ pos (2 ^ h)) ≤ℤ (b *ℤ pos (2 ^ h))
    by_units h a b order =
        let step = product_order (pos (2 ^ h)) a b (omega (arith, ints)) order in
        omega (arith, ints, step, commuted a (pos (2 ^ h)), commuted b (pos (2 ^ h)))

reached : (s : Sop) (x : (input : ℕ) → ℤ) → IsSop s → AreOf s x → IsWithinReach (sop_reach s).below (sop_reach s).above (exact_sop s x).num
reached s x is of =
    let low = raised_order s (λ t. t.least) (λ t. t.number x) (λ place. (between s x place is of).0) in
    let high = raised_order s (λ t. t.number x) (λ t. t.most) (λ place. (between s x place is of).1) in
    (omega (arith, ints, low, parts-below (raised s (λ t. t.least))), omega (arith, ints, high, parts-above (raised s (λ t. t.most))))

-- in units of the output's last place
ends_hold : (den n : ℤ) (places below above : ℕ) → pos 1 ≤ℤ den → IsWithinReach below above n
    → (((den *ℤ pos (2 ^ places)) *ℤ neg_ℤ (pos (in_units below (neg_ℤ (pos places)) den))) ≤ℤ n)
    × (n ≤ℤ ((den *ℤ pos (2 ^ places)) *ℤ pos (in_units above (neg_ℤ (pos places)) den)))
ends_hold (pos d) n places below above positive (low, high) =
    let some : 0 < d * 2 ^ places = mul-le-mul {n₁ = 1} {m₁ = 1} {n₂ = d} {m₂ = 2 ^ places} (omega (arith, ints)) (pow_pos places) in
    let first = low_end n below above 1 (d * 2 ^ places) some low in
    let second = high_end n below above 1 (d * 2 ^ places) some high in
    rw (up_of_down places, down_of_down places) (omega (arith, ints, first), omega (arith, ints, second))
ends_hold (negsuc d) n places below above positive within = absurd (omega (arith, ints))

pub sops_held : (s : Sop) → SopsHold s
sops_held s is x of y good =
    let ratio = exact_sop s x in
    let r = sop_reach s in
    let (low, high) = ends_hold s.den ratio.num (depth s) r.below r.above is.numbers.positive (reached s x is of) in
    covered (sop_places s) s.out_lsb y
    (rounded_within ratio.num ratio.den (sop_places s).below (sop_places s).above y (positive_units s.den (depth s) is.numbers.positive) low high good)

-- where the need is within the limit of signals, so are the bits of all terms and the output
pub need_parts : (s : Sop) (most : ℕ) → most ≤ MAX_TOTAL_BITS → sop_need s ≤ most → (total_bits s ≤ MAX_TOTAL_BITS) × (width_of (sop_places s) ≤ most)
need_parts s most limit within =
    ⊎_elim
    (λ (far : MAX_TOTAL_BITS < total_bits s).
    let over : nat_lt MAX_TOTAL_BITS (total_bits s) ≡ true = lt-ltb MAX_TOTAL_BITS (total_bits s) far in
    let all : total_bits s ≤ most = rw over at within in
    absurd (omega (arith, all, far, limit)))
    (λ (few : total_bits s ≤ MAX_TOTAL_BITS).
    let fits : nat_lt MAX_TOTAL_BITS (total_bits s) ≡ false = le-ltb MAX_TOTAL_BITS (total_bits s) few in
    let all : width_of (sop_places s) + rounding_bits s ≤ most = rw fits at within in
    (few, omega (arith, all)))
    (cases_lt MAX_TOTAL_BITS (total_bits s))

sop_in128 : (s : Sop) (x : (input : ℕ) → ℤ) → IsSop s → HasSmallShift s → total_bits s ≤ MAX_TOTAL_BITS → AreOf s x → IsRatioIn128 (exact_sop s x)
sop_in128 s x is shift few of =
    let num = raised_small s (λ t. t.number x) few (λ place here. number_small s x place is of) in
    let den = raised_within s.den 30 (depth s) 48 (few_units (2 ^ 30) s.den is.numbers.positive is.numbers.small) (depth_few s shift) in
    (small_in128 (exact_sop s x).num (omega (arith, num)), small_in128 (s.den *ℤ pos (2 ^ depth s)) (omega (arith, den)))

-- the sum of the terms depends on the inputs of the last cycle alone
module _ (s : Sop) (x y : (input : ℕ) → ℤ) (same : (input : ℕ) → x input ≡ y input) where
  abbrev raised_number : (z : (input : ℕ) → ℤ) → Term → ℤ
  raised_number z t = t.number z *ℤ pos (2 ^ height s t)

  same_offset : total (raised_number x) (offset_terms s) ≡ total (raised_number y) (offset_terms s)
  same_offset = go (nat_eq (unsigned_abs s.offset) 0)
    where
      go : (none : Bool)
          → total (raised_number x) (if none then [] else offset_term s ∷ []) ≡ total (raised_number y) (if none then [] else offset_term s ∷ [])
      go true = refl
      go false = refl

  same_products : (ts : List Times) → total (raised_number x) (map (times_term s) ts ++ offset_terms s)
      ≡ total (raised_number y) (map (times_term s) ts ++ offset_terms s)
  same_products [] = same_offset
  same_products (t ∷ ts) =
      ap₂ (λ a rest. ((s.den *ℤ signed_if t.negative a) *ℤ pos (2 ^ height s (times_term s t))) +ℤ rest)
      (ap₂ (λ a b. a *ℤ b) (same t.a) (same t.b)) (same_products ts)

  same_terms : (ts : List Scaled) → total (raised_number x) (map (scaled_term s) ts ++ (map (times_term s) s.products ++ offset_terms s))
      ≡ total (raised_number y) (map (scaled_term s) ts ++ (map (times_term s) s.products ++ offset_terms s))
  same_terms [] = same_products s.products
  same_terms (t ∷ ts) =
      ap₂ (λ a rest. ((a *ℤ t.coefficient) *ℤ pos (2 ^ height s (scaled_term s t))) +ℤ rest) (same t.input) (same_terms ts)

  pub same_good : (mode : Mode) (n : ℤ) → IsGoodRatio mode (exact_sop s x) n → IsGoodRatio mode (exact_sop s y) n
  same_good mode n good = subst (λ sum. IsGoodLinear sum (s.den *ℤ pos (2 ^ depth s)) n mode) (same_terms s.scaled) good

-- what holds of its meaning
pub sop_lawful : (s : Sop) → IsLawful (sop_meaning s) (sop_acceptance s)
sop_lawful s = record {
  some_input = λ is. is.inputs.some;
  input_bits = λ is k p here. input_bit (get_or s.inputs k p).format (is.inputs.formats k p here);
  wide = λ version is.
      let parts = need_parts s (most_signal version) (omega (arith, (signal_limit version).1)) (is.narrow (sop_need s) refl) in
      all_one (HasWidth (most_signal version)) _ (some_width (sop_places s), parts.1);
  limit = λ version h. h;
  least = λ h. h;
  room = λ version within high. tt;
  held = sops_held s;
  in128 = λ version is inputs of.
      let parts = need_parts s (most_signal version) (omega (arith, (signal_limit version).1)) (is.narrow (sop_need s) refl) in
      sop_in128 s (λ input. inputs input 0) is.ranges is.fine parts.0 (λ input here. of input 0 here);
  recalls = λ mode inputs others outputs same good.
      same_good s (λ input. inputs input 0) (λ input. others input 0) (λ input. same input 0 (omega arith)) mode (outputs 0) good;
}

-- what holds of an accepted one
pub accepted_shifts : (s : Sop) → IsAcceptedSop s → HasSmallShift s
accepted_shifts s is = accepted_shift (sop_meaning s) (sop_acceptance s) (sop_lawful s) is

pub accepted_parts : (s : Sop) → IsAcceptedSop s → (total_bits s ≤ MAX_TOTAL_BITS) × (width_of (sop_places s) ≤ 96)
accepted_parts s is = need_parts s 96 (omega arith) (accepted_width (sop_meaning s) (sop_acceptance s) (sop_need s) is refl)

pub accepted_sop : (s : Sop) → IsAcceptedSop s → IsSop s
accepted_sop s is = accepted_ranges (sop_meaning s) (sop_acceptance s) is

-- the denominator of the exact value
pub sop_positive : (s : Sop) (x : (input : ℕ) → ℤ) → IsSop s → pos 0 <ℤ (exact_sop s x).den
sop_positive s x is = positive_units s.den (depth s) is.numbers.positive
