-- Steps of the recoding.
use Rattle.std.proofs.Common.{◌≡◌, ◌≢◌, ◌⊎◌, inl, inr, ⊎_elim, ℕ, zero, suc, ◌+◌, ◌-◌, ◌^◌, ◌≤◌, ◌<◌, ◌/◌, ◌*◌, ◌%◌, FitsSigned, ◌*ℤ◌, length, take, set, get_or, replicate, ◌++◌, unsigned_abs, append_assoc, ℤ, pos, negsuc, ◌+ℤ◌, neg_ℤ, List, [], ◌∷◌, refl, sym, ◌∙◌, arith}
use Rattle.std.specs.Int.{int_rem_euclid}
use mir.Syntax.{w64}
use mir.Val.{to_z}
use Rattle.std.proofs.Math.Nat.{pow-suc, pow-le-pow_right}
use Rattle.std.proofs.Math.Seq.{take-suc-set}
use Rattle.std.proofs.Math.ListN.{length-set}
use Rattle.std.proofs.lemmas.Int.{ints, fits_signed_mul}
use Rattle.std.proofs.lemmas.List.{get_or-set_other, append-nil}
use Rattle.opgen_csd.specs.Digits.{IsDigit, value_of, IsCanonical, IsRecoded}
use Rattle.opgen_csd.proofs.Canonical.{digit_cases, half_above}

-- ---- the lowest digit
pub above_one : (n : ℤ) → int_rem_euclid n (pos 4) ≡ pos 1 → (x : ℤ) × (n ≡ pos 1 +ℤ ((x +ℤ x) +ℤ (x +ℤ x)))
above_one (pos a) m = (pos (a / 4), omega (arith, ints, m))
above_one (negsuc a) m = (negsuc (a / 4), omega (arith, ints, m))

pub above_three : (n : ℤ) → int_rem_euclid n (pos 4) ≡ pos 3 → (x : ℤ) × (n ≡ negsuc 0 +ℤ ((x +ℤ x) +ℤ (x +ℤ x)))
above_three (pos a) m = (pos (a / 4 + 1), omega (arith, ints, m))
above_three (negsuc a) m = (neg_ℤ (pos (a / 4)), omega (arith, ints, m))

pub above_even : (n r : ℤ) → r ≡ int_rem_euclid n (pos 4) → r ≢ pos 1 → r ≢ pos 3 → (x : ℤ) × (n ≡ x +ℤ x)
above_even (pos a) r e p q = (pos (a / 2), omega (arith, ints, e, p, q))
above_even (negsuc a) r e p q = (neg_ℤ (pos ((a + 1) / 2)), omega (arith, ints, e, p, q))

pub halves : (n d : ℤ) → (d ≢ pos 0 → (x : ℤ) × (n ≡ d +ℤ ((x +ℤ x) +ℤ (x +ℤ x)))) → (d ≡ pos 0 → (x : ℤ) × (n ≡ x +ℤ x)) → (x : ℤ)
    × (n ≡ d +ℤ (x +ℤ x))
halves n (pos zero) odd even = let x = even refl in (x.0, omega (arith, ints, x.1))
halves n (pos (suc m)) odd even = let x = odd (λ z. omega (arith, ints, z)) in (x.0 +ℤ x.0, x.1)
halves n (negsuc m) odd even = let x = odd (λ z. omega (arith, ints, z)) in (x.0 +ℤ x.0, x.1)

-- ---- a digit of a weight
pub power_small : (k : ℕ) → k ≤ 62 → 2 ^ k ≤ 2 ^ 62
power_small k h = pow-le-pow_right (omega arith) h

pub shifted : (k : ℕ) → k ≤ 62 → to_z w64 ((1 * 2 ^ k) % 18446744073709551616) ≡ pos (2 ^ k)
shifted k h = omega (arith, ints, power_small k h)

pub product_fits : (d : ℤ) (k : ℕ) → IsDigit d → k ≤ 62 → FitsSigned w64 (d *ℤ pos (2 ^ k))
product_fits d k hd h = fits_signed_mul w64 d (pos (2 ^ k)) 1 (2 ^ 62) (omega (arith, ints)) (power_small k h) (omega arith)

-- ---- a digit below a canonical form
pub put_below : (d : ℤ) (ds : List ℤ) (n : ℤ) → n ≢ pos 0 → IsDigit d → IsCanonical ds → n ≡ d +ℤ (value_of ds +ℤ value_of ds)
    → (d ≢ pos 0 → (x : ℤ) × (value_of ds ≡ x +ℤ x)) → IsCanonical (d ∷ ds)
put_below d [] n ne hd h e even = (hd, λ z. ne (omega (arith, ints, z)), h)
put_below d (f ∷ ds) n ne hd h e even = (
  hd,
  λ z. let x = even z in let y = half_above f ds h in zero_of f (value_of ds) x.0 y.0 h.0 x.1
      y.1,
  h,
)
  where
    zero_of : (f v x y : ℤ) → IsDigit f → f +ℤ (v +ℤ v) ≡ x +ℤ x → (f ≡ pos 0) ⊎ (v ≡ y +ℤ y) → f ≡ pos 0
    zero_of f v x y hf e h = omega (arith, ints)

-- ---- the loop: the digits are written up to `len`, `rest` is what stands above them
pub record Recodes (n : ℤ) (digits : List ℤ) (len : ℕ) (rest : ℤ) : Type 0 where
  pub above : (ds : List ℤ) → IsCanonical ds → value_of ds ≡ rest → IsCanonical (take len digits ++ ds)
      × (value_of (take len digits ++ ds) ≡ n)
  pub short : len ≤ 63
  pub size : length digits ≡ 64
  pub small : unsigned_abs rest < 2 ^ 62
  pub bound : (rest ≡ pos 0) ⊎ ((len ≤ 62) × (unsigned_abs rest ≤ 2 ^ (62 - len)))
  pub zeros : (k : ℕ) → len ≤ k → get_or digits k (pos 0) ≡ pos 0

zeros_at : (m k : ℕ) → get_or (replicate m (pos 0)) k (pos 0) ≡ pos 0
zeros_at zero k = refl
zeros_at (suc m) zero = refl
zeros_at (suc m) (suc k) = zeros_at m k

pub recodes_none : (n : ℤ) → unsigned_abs n < 2 ^ 62 → Recodes n (replicate 64 (pos 0)) 0 n
recodes_none n h = record {
  above = λ ds k v. (k, v);
  short = omega arith;
  size = refl;
  small = h;
  bound = inr (
    omega arith,
    omega (
      arith,
      h,
    ),
  );
  zeros = λ k _. zeros_at 64 k;
}

halved : (rest d half : ℤ) (k : ℕ) → IsDigit d → rest ≡ d +ℤ (half +ℤ half) → unsigned_abs rest ≤ 2 ^ (suc k) → unsigned_abs half ≤ 2 ^ k
halved rest d half k hd e h = omega (arith, ints, e, h, pow-suc 2 k)

bound_step : (rest d half : ℤ) (j : ℕ) → rest ≢ pos 0 → IsDigit d → rest ≡ d +ℤ (half +ℤ half) → (d ≢ pos 0 → (x : ℤ) × (half ≡ x +ℤ x))
    → unsigned_abs rest ≤ 2 ^ j → (half ≡ pos 0) ⊎ ((1 ≤ j) × (unsigned_abs half ≤ 2 ^ (j - 1)))
bound_step rest d half (suc j) ne hd e even h = inr
    (omega arith, let same : suc j - 1 ≡ j = omega arith in rw same (halved rest d half j hd e h))
bound_step rest d half zero ne hd e even h =
    let whole : d ≢ pos 0 → half ≡ pos 0 = λ z. let x = even z in omega (arith, ints, x.1) in
    inl (⊎_elim (λ (p : d ≡ negsuc 0). whole (λ q. omega (arith, ints, p, q)))
    (λ (o : (d ≡ pos 0) ⊎ (d ≡ pos 1)). ⊎_elim (λ (p : d ≡ pos 0). absurd (ne (omega (arith, ints, p))))
    (λ (p : d ≡ pos 1). whole (λ q. omega (arith, ints, p, q))) o)
    (digit_cases d hd))

pub recodes_more : (n : ℤ) (digits : List ℤ) (len : ℕ) (rest d half : ℤ) → Recodes n digits len rest → rest ≢ pos 0 → IsDigit d → rest
    ≡ d +ℤ (half +ℤ half) → (d ≢ pos 0 → (x : ℤ) × (half ≡ x +ℤ x)) → Recodes n (set digits len d) (suc len) half
recodes_more n digits len rest d half k ne hd e even =
    let in_range : len < length digits = omega (arith, k.size, k.short) in
    let b : (len ≤ 62) × (unsigned_abs rest ≤ 2 ^ (62 - len)) = ⊎_elim (λ (z : rest ≡ pos 0). absurd (ne z))
    (λ (w : (len ≤ 62) × (unsigned_abs rest ≤ 2 ^ (62 - len))). w) k.bound in
    record {
      above = λ ds h v.
          let put = put_below d ds rest ne hd h (omega (arith, ints, e, v)) (λ z. let x = even z in (x.0, v ∙ x.1)) in
          let old = k.above (d ∷ ds) put (omega (arith, ints, e, v)) in
          rw (take-suc-set digits len d in_range, append_assoc) old;
      short = omega (arith, b);
      size = length-set digits len d ∙ k.size;
      small = omega (arith, ints, k.small, e);
      bound = ⊎_elim (λ (z : half ≡ pos 0). inl z)
          (λ (w : (1 ≤ 62 - len) × (unsigned_abs half ≤ 2 ^ (62 - len - 1))). inr
          (omega (arith, w), let same : 62 - suc len ≡ 62 - len - 1 = omega arith in rw same w.1))
          (bound_step rest d half (62 - len) ne hd e even b.1);
      zeros = λ j le. let apart : j ≢ len = omega (arith, le) in rw (get_or-set_other digits len j d (pos 0) apart)
          (k.zeros j (omega (arith, le)));
    }

pub recoded : (n : ℤ) (digits : List ℤ) (len : ℕ) (rest : ℤ) → Recodes n digits len rest → rest ≡ pos 0 → IsCanonical (take len digits)
    × (value_of (take len digits) ≡ n)
recoded n digits len rest k z = let all = k.above [] tt (sym z) in rw append-nil at all

pub is_recoded : (n : ℤ) (digits : List ℤ) (len : ℕ) (rest : ℤ) → unsigned_abs n < 2 ^ 62 → Recodes n digits len rest → rest ≡ pos 0
    → IsRecoded digits len
is_recoded n digits len rest small k z =
    let all = recoded n digits len rest k z in
    record { canonical = all.0; in_range = rw all.1 small; short = k.short; zeros = k.zeros }
