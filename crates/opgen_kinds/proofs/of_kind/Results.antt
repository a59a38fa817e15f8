-- The numbers of a polynomial by Horner's rule, and the width of its output.
use Rattle.std.proofs.Common.{◌*◌, ◌≤◌, arith, ◌<◌, ⊎_elim, ◌≡◌, ℕ, zero, suc, ◌+◌, ◌^◌, List, [], ◌∷◌, length, drop, get_or, ap, ◌∙◌, sym, add-one, drop-cons, max}
use Rattle.std.proofs.lemmas.Bool.{cases_lt}
use Rattle.std.proofs.lemmas.Int.{ints, int_min_is, int_max_is}
use Rattle.std.proofs.lemmas.List.{length-drop, length-map, get_or-map}
use Rattle.std.proofs.lemmas.List.Elements.{All-drop, All-map}
use Rattle.std.proofs.lemmas.Nat.{pow_pos, pow-add}
use Rattle.std.proofs.Math.Nat.{mul-le-mul_right, mul-le-mul_left}
use Rattle.std.specs.Int.{int_min}
use Rattle.std.specs.Prelude.{ℤ, pos, negsuc, neg_ℤ, ◌*ℤ◌, ◌≤ℤ◌, unsigned_abs, All, ◌<ℤ◌}
use Rattle.opgen_num.proofs.BitLength.{power_order}
use Rattle.opgen_num.proofs.NearestNumbers.{nearest-at_most, nearest-at_least, nearest-order}
use Rattle.opgen_num.proofs.RangeWidth.{count-least, count-holds}
use Rattle.opgen_num.specs.Formats.{range_width}
use Rattle.opgen_num.specs.Rounding.{nearest}
use Rattle.opgen_kinds.specs.declared.poly.Poly.{Poly as Polynomial}
use Rattle.opgen_kinds.specs.Horner.{degree, poly_guard, result_places, guarded, low_end, high_end, all_guarded, partial_width, result_low, result_high}
use Rattle.opgen_kinds.specs.Poly.{IsPoly, poly_format, PolynomialsHaveRoom}
use Rattle.opgen_ports.specs.Ranges.{IsWithin}
use Rattle.opgen_ports.proofs.Magnitudes.{product_within}
use Rattle.opgen_kinds.proofs.of_kind.Terms.{few_places}

-- the guard bits
pub guard_few : (p : Polynomial) → IsPoly p → poly_guard p ≤ 4
guard_few p fits = count-least (3 * degree p) 4 (omega (arith, fits.few))

pub guard_some : (p : Polynomial) → IsPoly p → 2 ≤ poly_guard p
guard_some p fits =
    ⊎_elim
    (λ (few : poly_guard p < 2). absurd (omega (arith, power_order (poly_guard p) 1 (omega (arith, few)), count-holds (3 * degree p), fits.some)))
    (λ (some : 2 ≤ poly_guard p). some)
    (cases_lt (poly_guard p) 2)

-- a coefficient in units of the guard bits
in_units : (n m : ℤ) (bound : ℕ) → pos 1 ≤ℤ m → unsigned_abs n ≤ bound → unsigned_abs (nearest n m) ≤ bound
in_units n (pos m) bound some small =
    let least : 1 * bound ≤ m * bound = mul-le-mul_right bound (omega (arith, ints, some)) in
    let high = nearest-at_most n (pos m) (pos bound) (omega (arith, ints, some)) (omega (arith, ints, small, least)) in
    let low = nearest-at_least n (pos m) (neg_ℤ (pos bound)) (omega (arith, ints, some)) (omega (arith, ints, small, least, opposite m bound)) in
    omega (arith, ints, high, low)
  where
    opposite : (m bound : ℕ) → pos m *ℤ neg_ℤ (pos bound) ≡ neg_ℤ (pos (m * bound))
    opposite m zero = omega (arith, ints)
    opposite m (suc b) = omega (arith, ints)
in_units n (negsuc m) bound some small = absurd (omega (arith, ints, some))

-- a coefficient has 30 bits, the places after the point and the guard bits
abbrev pub guarded_bits : Polynomial → ℕ
guarded_bits p = 30 + (result_places p + poly_guard p)

pub guarded_small : (p : Polynomial) (c : ℤ) → IsPoly p → IsWithin (2 ^ 30) c → unsigned_abs (guarded p c) ≤ 2 ^ guarded_bits p
guarded_small p c fits small =
    in_units (c *ℤ pos (2 ^ (result_places p + poly_guard p))) p.den (2 ^ guarded_bits p) fits.positive
    (product_within c (pos (2 ^ (result_places p + poly_guard p))) 30 (result_places p + poly_guard p) small (omega arith))

pub few_guarded_bits : (p : Polynomial) → IsPoly p → guarded_bits p ≤ 50
few_guarded_bits p fits = omega (arith, few_places p fits, guard_few p fits)

-- the ends, by the size of the coefficients
pub ends_order : (cs : List ℤ) → low_end cs ≤ℤ high_end cs
ends_order [] = omega (arith, ints)
ends_order (c ∷ cs) =
    omega (arith, ints, ends_order cs, int_min_is (low_end cs) (pos 0), int_max_is (high_end cs) (pos 0))

pub ends_within : (most : ℕ) (cs : List ℤ) → All (IsWithin most) cs
    → (neg_ℤ (pos (length cs * most)) ≤ℤ low_end cs) × (high_end cs ≤ℤ pos (length cs * most))
ends_within most [] small = (omega (arith, ints), omega (arith, ints))
ends_within most (c ∷ cs) small =
    let here : unsigned_abs c ≤ most = small zero c (omega arith) in
    let (low, high) = ends_within most cs (λ k d h. small (suc k) d (omega arith)) in (
      omega (arith, ints, here, low, int_min_is (low_end cs) (pos 0)),
      omega (arith, ints, here, high, int_max_is (high_end cs) (pos 0)),
    )

-- those from a place on
module _ (p : Polynomial) (fits : IsPoly p) where
  all_small : All (IsWithin (2 ^ guarded_bits p)) (all_guarded p)
  all_small = All-map (IsWithin (2 ^ guarded_bits p)) (guarded p) p.coefs (λ k d h. guarded_small p (get_or p.coefs k d) fits (fits.coefs k d h))

  few_left : (place : ℕ) → length (drop place (all_guarded p)) ≤ 5
  few_left place = omega (arith, length-drop place (all_guarded p), length-map p.coefs (guarded p), fits.few)

  pub partial_within : (place : ℕ) → (neg_ℤ (pos (5 * 2 ^ guarded_bits p)) ≤ℤ low_end (drop place (all_guarded p)))
      × (high_end (drop place (all_guarded p)) ≤ℤ pos (5 * 2 ^ guarded_bits p))
  partial_within place =
      let (low, high) = ends_within (2 ^ guarded_bits p) (drop place (all_guarded p))
      (All-drop (IsWithin (2 ^ guarded_bits p)) place (all_guarded p) all_small) in
      let most : length (drop place (all_guarded p)) * 2 ^ guarded_bits p ≤ 5 * 2 ^ guarded_bits p = mul-le-mul_right (2 ^ guarded_bits p)
      (few_left place) in
      (omega (arith, ints, low, most), omega (arith, ints, high, most))

  pub partial_small : (place : ℕ) → (unsigned_abs (low_end (drop place (all_guarded p))) ≤ 5 * 2 ^ 50)
      × (unsigned_abs (high_end (drop place (all_guarded p))) ≤ 5 * 2 ^ 50)
  partial_small place =
      let (low, high) = partial_within place in
      let order = ends_order (drop place (all_guarded p)) in
      let few = power_order (guarded_bits p) 50 (few_guarded_bits p fits) in
      (omega (arith, ints, low, high, order, few), omega (arith, ints, low, high, order, few))

-- one coefficient more
pub ends_step : (p : Polynomial) (at : ℕ) → at < length p.coefs
    → drop at (all_guarded p) ≡ guarded p (get_or p.coefs at (pos 0)) ∷ drop (at + 1) (all_guarded p)
ends_step p at h =
    drop-cons (all_guarded p) at (pos 0) (omega (arith, h, length-map p.coefs (guarded p)))
    ∙ ap (λ g. g ∷ drop (suc at) (all_guarded p)) (get_or-map (guarded p) p.coefs at (pos 0) (pos 0) h)
    ∙ ap (λ k. guarded p (get_or p.coefs at (pos 0)) ∷ drop k (all_guarded p)) (sym (add-one at))

range_few : (lo hi : ℤ) (k : ℕ) → 1 ≤ k → lo ≤ℤ hi → neg_ℤ (pos (2 ^ k)) ≤ℤ lo → hi <ℤ pos (2 ^ k) → range_width lo hi ≤ k + 1
range_few (pos a) (pos b) k some order low high = omega (arith, count-least b k (omega (arith, ints, high)), some)
range_few (pos a) (negsuc b) k some order low high = absurd (omega (arith, ints, order))
range_few (negsuc a) (pos b) k some order low high = omega (arith, count-least (max a b) k (omega (arith, ints, low, high)), some)
range_few (negsuc a) (negsuc b) k some order low high = omega (arith, count-least a k (omega (arith, ints, low)), some)

pub range_some : (lo hi : ℤ) → 1 ≤ range_width lo hi
range_some (pos a) hi = omega arith
range_some (negsuc a) (pos b) = omega arith
range_some (negsuc a) (negsuc b) = omega arith

signed_some : (lo hi : ℤ) → lo <ℤ pos 0 → 2 ≤ range_width lo hi
signed_some (pos a) hi below = absurd (omega (arith, ints, below))
signed_some (negsuc a) (pos b) below = omega arith
signed_some (negsuc a) (negsuc b) below = omega arith

-- a partial value has 54 bits at most
pub partial_bits : (p : Polynomial) (place : ℕ) → IsPoly p → (2 ≤ partial_width (drop place (all_guarded p)))
    × (partial_width (drop place (all_guarded p)) ≤ 54)
partial_bits p place fits =
    let low = low_end (drop place (all_guarded p)) in
    let high = high_end (drop place (all_guarded p)) in
    let (least, most) = partial_within p fits place in
    let few = power_order (guarded_bits p) 50 (few_guarded_bits p fits) in
    let order = ends_order (drop place (all_guarded p)) in
    let min = int_min_is low (negsuc 0) in (
      signed_some (int_min low (negsuc 0)) high (omega (arith, ints, min)),
      range_few (int_min low (negsuc 0)) high 53 (omega arith) (omega (arith, ints, min, order)) (omega (arith, ints, min, least, few))
          (omega (arith, ints, most, few)),
    )

-- a result has 50
pub results_order : (p : Polynomial) → result_low p ≤ℤ result_high p
results_order p = nearest-order (low_end (all_guarded p)) (high_end (all_guarded p)) (pos (2 ^ poly_guard p))
    (omega (arith, ints, pow_pos (poly_guard p))) (ends_order (all_guarded p))

pub results_within : (p : Polynomial) → IsPoly p → (neg_ℤ (pos (5 * 2 ^ 46)) ≤ℤ result_low p) × (result_high p ≤ℤ pos (5 * 2 ^ 46))
results_within p fits =
    let g = poly_guard p in
    let some : pos 0 <ℤ pos (2 ^ g) = omega (arith, ints, pow_pos g) in
    let (low, high) = partial_within p fits 0 in
    let units : 2 ^ guarded_bits p ≡ 2 ^ g * 2 ^ (30 + result_places p) = ap (λ k. 2 ^ k) (omega arith) ∙ pow-add 2 g (30 + result_places p) in
    let few : 2 ^ g * 2 ^ (30 + result_places p) ≤ 2 ^ g * 2 ^ 46 = mul-le-mul_left (2 ^ g)
    (power_order (30 + result_places p) 46 (omega (arith, few_places p fits))) in (
      nearest-at_least (low_end (all_guarded p)) (pos (2 ^ g)) (neg_ℤ (pos (5 * 2 ^ 46))) some (omega (arith, ints, low, units, few)),
      nearest-at_most (high_end (all_guarded p)) (pos (2 ^ g)) (pos (5 * 2 ^ 46)) some (omega (arith, ints, high, units, few)),
    )

pub poly_width : (p : Polynomial) → IsPoly p → (1 ≤ (poly_format p).width) × ((poly_format p).width ≤ 50)
poly_width p fits =
    let (low, high) = results_within p fits in (
      range_some (result_low p) (result_high p),
      range_few (result_low p) (result_high p) 49 (omega arith) (results_order p) (omega (arith, ints, low)) (omega (arith, ints, high)),
    )

pub polys_room : PolynomialsHaveRoom
polys_room p fits = record {
  guard = guard_few p fits;
  guarded = λ k d h. omega (
    arith,
    guarded_small p (get_or p.coefs k d) fits (fits.coefs k d h),
    power_order (guarded_bits p) 50 (few_guarded_bits p fits),
  );
  partial = λ place. omega (arith, (partial_bits p place fits).1, fits.narrow);
  last = omega (arith, (poly_width p fits).1, guard_few p fits, fits.narrow);
}
