-- The coefficients of a sum in units of the output's last place.
use Rattle.std.proofs.Common.{◌≡◌, ℕ, zero, suc, ◌*◌, ◌/◌, ◌%◌, ◌^◌, ◌<◌, ◌≤◌, true, false, length, get_or, not, FitsSigned, sym, ap, ◌∙◌, arith}
use Rattle.std.specs.Prelude.{ℤ, pos, negsuc, neg_ℤ, ◌*ℤ◌, ◌≤ℤ◌, unsigned_abs, None, ◌==◌}
use Rattle.std.proofs.lemmas.Bool.{eqb-true, not-false}
use Rattle.std.proofs.lemmas.Int.{ints, unsigned_abs-mul, fits_signed_from_abs}
use Rattle.std.proofs.lemmas.List.Elements.{All-get_or}
use Rattle.std.specs.Int.{w64}
use Rattle.std.proofs.lemmas.Nat.{div-add-mod', pow_pos}
use Rattle.std.proofs.Math.Nat.{mul-pos}
use Rattle.opgen_num.proofs.Lists.{none-passes}
use Rattle.opgen_kinds.specs.declared.sum.Sum.{Sum}
use Rattle.opgen_kinds.specs.Sum.{sum_shift, is_whole, first_inexact, IsSum}
use Rattle.opgen_ports.specs.Ranges.{IsWithin}
use Rattle.opgen_ports.specs.Reaches.{up, down}
use Rattle.opgen_ports.proofs.Reached.{neg-left}
use Rattle.opgen_fir.specs.Recipe.{is_zero, factor}
use Rattle.opgen_fir.specs.Summed.{units}

-- the denominator in units
pub den-units : (s : Sum) (c : ℤ) → IsSum 256 s → (factor s c).den ≡ pos (units s)
den-units s c sum = scaled s.den (down (sum_shift s)) sum.positive
  where
    scaled : (d : ℤ) (v : ℕ) → pos 1 ≤ℤ d → d *ℤ pos v ≡ pos (unsigned_abs d * v)
    scaled (pos d) v h = omega (arith, ints)
    scaled (negsuc d) v h = absurd (omega (arith, ints, h))

pub units-some : (s : Sum) → IsSum 256 s → 0 < units s
units-some s sum = mul-pos {m = unsigned_abs s.den} {n = down (sum_shift s)} (omega (arith, ints, sum.positive)) (pow_pos _)

-- a whole coefficient is a whole number of units
pub record Whole (c : ℤ) (u m : ℕ) : Type 0 where
  pub times : ℤ
  pub is : times *ℤ pos m ≡ c *ℤ pos u

whole-times : (c : ℤ) (u m : ℕ) → (unsigned_abs c * u) % m ≡ 0 → Whole c u m
whole-times (pos a) u m h = record { times = pos (a * u / m); is = omega (arith, ints, div-add-mod' (a * u) m, h) }
whole-times (negsuc a) u m h =
    let q = suc a * u / m in
    let rest : suc a * u % m ≡ 0 = h in
    let whole : q * m ≡ suc a * u = omega (arith, div-add-mod' (suc a * u) m, rest) in
    let less : negsuc a *ℤ pos u ≡ neg_ℤ (pos (suc a * u)) = omega (arith, ints) in
    record { times = neg_ℤ (pos q); is = neg-left q m ∙ ap (λ n. neg_ℤ (pos n)) whole ∙ sym less }

-- where no coefficient is inexact
pub all-whole : (s : Sum) → first_inexact s ≡ None → (k : ℕ) → k < length s.coefs
    → Whole (get_or s.coefs k (pos 0)) (up (sum_shift s)) (units s)
all-whole s none k h =
    let c = get_or s.coefs k (pos 0) in
    whole-times c (up (sum_shift s)) (units s)
    (eqb-true ((unsigned_abs c * up (sum_shift s)) % units s) 0
    (not-false (is_whole s c) (none-passes (λ d. not (is_whole s d)) 0 s.coefs k none h)))

-- a coefficient that is not 0 is not 0 in units
pub factor-some : (c : ℤ) (u : ℕ) → 0 < u → is_zero c ≡ false → c *ℤ pos u ≡ pos 0 → ⊥
factor-some c u some e none = by (unsigned_abs c) e (sym (unsigned_abs-mul c (pos u)) ∙ ap unsigned_abs none)
  where
    by : (n : ℕ) → (n == 0) ≡ false → n * u ≡ 0 → ⊥
    by zero f g = cc
    by (suc n) f g = omega (arith, g, some)

pub zero-is : (c : ℤ) → is_zero c ≡ true → c ≡ pos 0
zero-is c e = by c (eqb-true (unsigned_abs c) 0 e)
  where
    by : (z : ℤ) → unsigned_abs z ≡ 0 → z ≡ pos 0
    by (pos n) h = ap pos h
    by (negsuc n) h = absurd (omega (arith, h))

-- a coefficient is a number of 64 bits
pub coef-fits : (s : Sum) → IsSum 256 s → (k : ℕ) → k < length s.coefs → FitsSigned w64 (get_or s.coefs k (pos 0))
coef-fits s sum k h =
    let small : unsigned_abs (get_or s.coefs k (pos 0)) ≤ 2 ^ 30 = All-get_or (IsWithin (2 ^ 30)) s.coefs k (pos 0) h sum.coefs in
    fits_signed_from_abs w64 (get_or s.coefs k (pos 0)) (omega (arith, small))
