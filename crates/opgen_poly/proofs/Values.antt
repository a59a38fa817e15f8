-- The value of a step: how near it is, and that its width holds it.
use Rattle.std.proofs.Common.{◌≡◌, ℕ, suc, ◌+◌, ◌-◌, ◌*◌, ◌^◌, ◌<◌, ◌≤◌, true, length, drop, get_or, pow-add, refl, sym, ap, ◌∙◌, subst, arith}
use Rattle.std.specs.Prelude.{ℤ, pos, negsuc, ◌+ℤ◌, ◌-ℤ◌, ◌*ℤ◌, ◌<ℤ◌, ◌≤ℤ◌, unsigned_abs}
use Rattle.std.specs.Int.{int_min}
use Rattle.std.proofs.lemmas.Int.{ints, int_min_is}
use Rattle.std.proofs.Math.Nat.{mul-le-mul}
use Rattle.std.proofs.lemmas.Nat.{pow_pos}
use Rattle.opgen_num.specs.Floors.{IsFloor}
use Rattle.opgen_num.specs.Formats.{Holds, HoldsBoth, is_negative, least, range_width}
use Rattle.opgen_num.specs.Rounding.{distance}
use Rattle.opgen_num.proofs.Integers.{product-sum}
use Rattle.opgen_num.proofs.RangeWidth.{range_width-least}
use Rattle.opgen_num.proofs.NearestNumbers.{nearest-floor}
use Rattle.opgen_kinds.specs.declared.poly.Poly.{Poly as Polynomial}
use Rattle.opgen_kinds.specs.Horner.{degree, result_places, poly_guard, all_guarded, low_end, high_end, signed_width}
use Rattle.opgen_kinds.specs.Poly.{terms_from, IsPoly}
use Rattle.opgen_kinds.proofs.of_kind.Results.{ends_step}
use Rattle.opgen_poly.specs.Near.{exact_from, halves_from, IsLessThanHalves, IsAtMostHalves}
use Rattle.opgen_poly.specs.Recipe.{coefficient_at}
use Rattle.opgen_poly.proofs.Cores.{M, above, below, between, times, twice}
use Rattle.opgen_poly.proofs.Terms.{first-term, scaled-terms}

-- a number between two is held by the least width that holds both
pub held : (lo hi y : ℤ) → lo ≤ℤ y → y ≤ℤ hi → Holds (is_negative lo) (range_width lo hi) y
held lo hi y low high =
    let both : HoldsBoth (is_negative lo) lo hi (range_width lo hi) = (range_width-least lo hi (omega (arith, ints, low, high))).0 in
    (omega (arith, ints, both.1.0, low), omega (arith, ints, both.2.1, high))

below-zero : (z : ℤ) → z <ℤ pos 0 → is_negative z ≡ true
below-zero (pos n) h = absurd (omega (arith, ints, h))
below-zero (negsuc n) h = refl

pub signed-held : (lo hi y : ℤ) → lo ≤ℤ y → y ≤ℤ hi → Holds true (signed_width lo hi) y
signed-held lo hi y low high =
    let min = int_min_is lo (negsuc 0) in
    subst (λ b. Holds b (signed_width lo hi) y) (below-zero (int_min lo (negsuc 0)) (omega (arith, ints, min)))
    (held (int_min lo (negsuc 0)) hi y (omega (arith, ints, min, low)) high)

-- a distance by two inequalities
pub less_than : (a b : ℤ) (c : ℕ) → (pos 2 *ℤ a) <ℤ ((pos 2 *ℤ b) +ℤ pos c) → ((pos 2 *ℤ b) -ℤ pos c) <ℤ (pos 2 *ℤ a)
    → (pos 2 *ℤ pos (distance a b)) <ℤ pos c
less_than a b c high low = omega (arith, ints, high, low)

pub at_most : (a b : ℤ) (c : ℕ) → (pos 2 *ℤ a) ≤ℤ ((pos 2 *ℤ b) +ℤ pos c) → ((pos 2 *ℤ b) -ℤ pos c) ≤ℤ (pos 2 *ℤ a)
    → (pos 2 *ℤ pos (distance a b)) ≤ℤ pos c
at_most a b c high low = omega (arith, ints, high, low)

pub from_at_most : (a b : ℤ) (c : ℕ) → (pos 2 *ℤ pos (distance a b)) ≤ℤ pos c
    → ((pos 2 *ℤ a) ≤ℤ ((pos 2 *ℤ b) +ℤ pos c)) × (((pos 2 *ℤ b) -ℤ pos c) ≤ℤ (pos 2 *ℤ a))
from_at_most a b c h = (omega (arith, ints, h), omega (arith, ints, h))

-- the denominator of the coefficients, 2 to the input's width, and the units of the lowest guard bit in one of the results
abbrev pub den_of : Polynomial → ℕ
den_of p = unsigned_abs p.den

abbrev pub unit_of : Polynomial → ℕ
unit_of p = 2 ^ p.input.width

abbrev pub scale_of : Polynomial → ℕ
scale_of p = 2 ^ (result_places p + poly_guard p)

module _ (p : Polynomial) (fits : IsPoly p) where
  abbrev d : ℕ
  d = den_of p

  abbrev W : ℕ
  W = unit_of p

  abbrev S : ℕ
  S = scale_of p

  pub den_is : p.den ≡ pos d
  den_is = go p.den fits.positive
    where
      go : (z : ℤ) → pos 1 ≤ℤ z → z ≡ pos (unsigned_abs z)
      go (pos n) h = omega (arith, ints)
      go (negsuc n) h = absurd (omega (arith, ints, h))

  pub some_den : 0 < d
  some_den = omega (arith, ints, den_is, fits.positive)

  -- of a coefficient
  pub coefficient_near : (place : ℕ)
      → ((pos (2 * d) *ℤ coefficient_at p place) ≤ℤ ((pos 2 *ℤ (get_or p.coefs place (pos 0) *ℤ pos S)) +ℤ pos d))
      × (((pos 2 *ℤ (get_or p.coefs place (pos 0) *ℤ pos S)) -ℤ pos d) ≤ℤ (pos (2 * d) *ℤ coefficient_at p place))
  coefficient_near place =
      let C = get_or p.coefs place (pos 0) *ℤ pos S in
      let A = coefficient_at p place in
      let (high, low) = nearest-floor C p.den (omega (arith, ints, fits.positive)) in
      let of_den : p.den *ℤ A ≡ pos d *ℤ A = ap (λ z. z *ℤ A) den_is in
      let of_two : pos 2 *ℤ (p.den *ℤ A) ≡ pos (2 * d) *ℤ A = ap (λ z. pos 2 *ℤ z) of_den ∙ twice 2 d A in
      (omega (arith, ints, high, of_two, den_is), omega (arith, ints, low, of_two, den_is))

  -- the common denominator from a place on
  pub denominator : (k : ℕ) → p.den *ℤ pos (2 ^ (p.input.width * k)) ≡ pos (d * 2 ^ (p.input.width * k))
  denominator k = ap (λ z. z *ℤ pos (2 ^ (p.input.width * k))) den_is ∙ times d (2 ^ (p.input.width * k))

  module _ (place : ℕ) (within : place + 1 < length p.coefs) (x e : ℕ) (h y : ℤ) (narrow : x ≤ W) (small : e < W)
      (floor : IsFloor (((pos W *ℤ coefficient_at p place) +ℤ (pos x *ℤ h)) +ℤ pos e) (pos W) y) where
    abbrev A : ℤ
    A = coefficient_at p place

    abbrev k : ℕ
    k = degree p - (place + 1)

    abbrev P : ℕ
    P = 2 ^ (p.input.width * k)

    abbrev C : ℤ
    C = get_or p.coefs place (pos 0) *ℤ pos S

    abbrev N : ℤ
    N = terms_from 0 (drop (place + 1) p.coefs) p.input.width k x *ℤ pos S

    next : degree p - place ≡ suc k
    next = omega (arith, within)

    power : 2 ^ (p.input.width * suc k) ≡ P * W
    power = ap (λ q. 2 ^ q) (omega arith) ∙ pow-add 2 (p.input.width * k) p.input.width

    numerator : (exact_from p place x).num ≡ M W P d (halves_from p (place + 1)) x (W - 1) h y A C N
    numerator =
        ap (λ q. terms_from 0 (drop place p.coefs) p.input.width q x *ℤ pos S) next
        ∙ ap (λ z. z *ℤ pos S) (first-term p.coefs place p.input.width k x (omega (arith, within)))
        ∙ scaled-terms (get_or p.coefs place (pos 0)) (terms_from 0 (drop (place + 1) p.coefs) p.input.width k x)
        (2 ^ (p.input.width * suc k)) x S
        ∙ ap (λ q. (pos q *ℤ C) +ℤ (pos x *ℤ N)) power

    common : (exact_from p place x).den ≡ pos (d * P * W)
    common =
        ap (λ q. p.den *ℤ pos (2 ^ (p.input.width * q))) next
        ∙ denominator (suc k)
        ∙ ap (λ q. pos (d * q)) power
        ∙ ap pos (omega arith)

    halves : halves_from p place ≡ halves_from p (place + 1) + 3
    halves = omega (arith, within)

    -- how near the next partial value is
    pub step-near : IsAtMostHalves (halves_from p (place + 1)) (exact_from p (place + 1) x) h
        → IsLessThanHalves (halves_from p place) (exact_from p place x) y
    step-near before = near
      where
        K : ℕ
        K = halves_from p (place + 1)

        some : 0 < d * P
        some = omega (arith, mul-le-mul {n₁ = 1} {m₁ = 1} {n₂ = d} {m₂ = P} some_den (pow_pos (p.input.width * k)))

        of_h : p.den *ℤ pos P ≡ pos (d * P)
        of_h = denominator k

        given : (pos 2 *ℤ pos (distance (pos (d * P) *ℤ h) N)) ≤ℤ pos (d * P * K)
        given =
            let left : (pos 2 *ℤ pos (distance (pos (d * P) *ℤ h) N)) ≤ℤ (pos (d * P) *ℤ pos K) =
            subst (λ D. (pos 2 *ℤ pos (distance (D *ℤ h) N)) ≤ℤ (D *ℤ pos K)) of_h before in
            omega (arith, ints, left, times (d * P) K)

        parts : ((pos 2 *ℤ (pos (d * P) *ℤ h)) ≤ℤ ((pos 2 *ℤ N) +ℤ pos (d * P * K)))
            × (((pos 2 *ℤ N) -ℤ pos (d * P * K)) ≤ℤ (pos 2 *ℤ (pos (d * P) *ℤ h)))
        parts = from_at_most (pos (d * P) *ℤ h) N (d * P * K) given

        of_two : pos 2 *ℤ (pos (d * P) *ℤ h) ≡ pos (2 * (d * P)) *ℤ h
        of_two = twice 2 (d * P) h

        one : pos W *ℤ (y +ℤ pos 1) ≡ (pos W *ℤ y) +ℤ pos W
        one = product-sum (pos W) y (pos 1) ∙ omega (arith, ints)

        some_w : 0 < W
        some_w = pow_pos p.input.width

        high : (pos (2 * (d * P * W)) *ℤ y) <ℤ ((pos 2 *ℤ M W P d K x (W - 1) h y A C N) +ℤ pos (d * P * W * (K + 3)))
        high =
            above W P d K x (W - 1) h y A C N some narrow (omega (arith, some_w)) (omega (arith, ints, floor.0, small))
            (coefficient_near place).0 (omega (arith, ints, parts.0, of_two))

        low : ((pos 2 *ℤ M W P d K x (W - 1) h y A C N) -ℤ pos (d * P * W * (K + 3))) <ℤ (pos (2 * (d * P * W)) *ℤ y)
        low =
            below W P d K x (W - 1) h y A C N some narrow (omega (arith, some_w)) (omega (arith, ints, floor.1, one, some_w))
            (coefficient_near place).1 (omega (arith, ints, parts.1, of_two))

        of_y : pos 2 *ℤ (pos (d * P * W) *ℤ y) ≡ pos (2 * (d * P * W)) *ℤ y
        of_y = twice 2 (d * P * W) y

        plain : (pos 2 *ℤ pos (distance (pos (d * P * W) *ℤ y) (M W P d K x (W - 1) h y A C N))) <ℤ pos (d * P * W * (K + 3))
        plain =
            less_than (pos (d * P * W) *ℤ y) (M W P d K x (W - 1) h y A C N) (d * P * W * (K + 3)) (omega (arith, ints, high, of_y))
            (omega (arith, ints, low, of_y))

        scaled : (pos 2 *ℤ pos (distance (pos (d * P * W) *ℤ y) (M W P d K x (W - 1) h y A C N))) <ℤ (pos (d * P * W) *ℤ pos (halves_from p place))
        scaled =
            let all : d * P * W * halves_from p place ≡ d * P * W * (K + 3) = ap (λ q. d * P * W * q) halves in
            omega (arith, ints, plain, times (d * P * W) (halves_from p place), all)

        near : IsLessThanHalves (halves_from p place) (exact_from p place x) y
        near =
            subst (λ D. (pos 2 *ℤ pos (distance (D *ℤ y) (exact_from p place x).num)) <ℤ (D *ℤ pos (halves_from p place))) (sym common)
            (subst (λ n. (pos 2 *ℤ pos (distance (pos (d * P * W) *ℤ y) n)) <ℤ (pos (d * P * W) *ℤ pos (halves_from p place))) (sym numerator)
            scaled)

    -- and its ends
    pub step-between : low_end (drop (place + 1) (all_guarded p)) ≤ℤ h → h ≤ℤ high_end (drop (place + 1) (all_guarded p))
        → (low_end (drop place (all_guarded p)) ≤ℤ y) × (y ≤ℤ high_end (drop place (all_guarded p)))
    step-between low high =
        let (least, most) = between W x e h y A narrow small floor (low_end (drop (place + 1) (all_guarded p)))
        (high_end (drop (place + 1) (all_guarded p))) low high in
        let ends = ends_step p place (omega (arith, within)) in (
          subst (λ cs. low_end cs ≤ℤ y) (sym ends) least,
          subst (λ cs. y ≤ℤ high_end cs) (sym ends) most,
        )
