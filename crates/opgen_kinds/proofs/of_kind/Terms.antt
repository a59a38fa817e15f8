-- The terms of a polynomial over its common denominator.
use Rattle.std.proofs.Common.{◌≤◌, arith, ◌*◌, ◌≡◌, ℕ, zero, suc, ◌^◌, ap, ◌∙◌, ◌+◌, ◌-◌, sym, List, [], ◌∷◌, length, drop, get_or, ◌<◌, add-one, drop-cons}
use Rattle.std.proofs.lemmas.Int.{ints}
use Rattle.std.proofs.lemmas.Nat.{pow-add}
use Rattle.std.proofs.Math.Nat.{mul-le-mul, pow-zero, pow-suc, mul-le-mul_right}
use Rattle.std.specs.Prelude.{ℤ, pos, negsuc, ◌≤ℤ◌, unsigned_abs, ◌*ℤ◌, All, ◌+ℤ◌}
use Rattle.opgen_num.proofs.BitLength.{power_order}
use Rattle.opgen_kinds.specs.declared.poly.Poly.{Poly as Polynomial}
use Rattle.opgen_kinds.specs.Horner.{result_places, degree}
use Rattle.opgen_kinds.specs.Poly.{IsPoly, terms_from}
use Rattle.opgen_ports.specs.Ranges.{IsWithin}
use Rattle.opgen_ports.proofs.Magnitudes.{product_within}
use Rattle.opgen_ports.proofs.WeightedSums.{bound_step}

-- so many places and powers
pub few_places : (p : Polynomial) → IsPoly p → result_places p ≤ 16
few_places p fits = go p.out_lsb fits.out_lsb.0 fits.out_lsb.1
  where
    go : (lsb : ℤ) → negsuc 15 ≤ℤ lsb → lsb ≤ℤ pos 0 → unsigned_abs lsb ≤ 16
    go (pos n) low high = omega (arith, ints, high)
    go (negsuc n) low high = omega (arith, ints, low)

pub few_powers : (p : Polynomial) → IsPoly p → p.input.width * degree p ≤ 64
few_powers p fits =
    let all : p.input.width * degree p ≤ 16 * 4 = mul-le-mul {n₁ = p.input.width} {m₁ = degree p} {n₂ = 16} {m₂ = 4} fits.narrow
    (omega (arith, fits.few)) in
    omega (arith, all)

pub power_small : (x w i : ℕ) → x ≤ 2 ^ w → x ^ i ≤ 2 ^ (w * i)
power_small x w zero h =
    let e : w * 0 ≡ 0 = omega arith in
    let none : 2 ^ (w * 0) ≡ 2 ^ 0 = ap (λ k. 2 ^ k) e in
    omega (arith, none, pow-zero x)
power_small x w (suc i) h =
    let step = mul-le-mul {n₁ = x ^ i} {m₁ = x} {n₂ = 2 ^ (w * i)} {m₂ = 2 ^ w} (power_small x w i h) h in
    let power : 2 ^ (w * suc i) ≡ 2 ^ (w * i) * 2 ^ w = ap (λ k. 2 ^ k) (omega arith) ∙ pow-add 2 (w * i) w in
    omega (arith, step, power, one_power x i)
  where
    one_power : (x i : ℕ) → x ^ suc i ≡ x ^ i * x
    one_power x i = omega (arith, pow-suc x i)

-- a power of the input over the common denominator
pub factor_small : (x w n i : ℕ) → x ≤ 2 ^ w → i ≤ n → x ^ i * 2 ^ (w * (n - i)) ≤ 2 ^ (w * n)
factor_small x w n i h below =
    let step : x ^ i * 2 ^ (w * (n - i)) ≤ 2 ^ (w * i) * 2 ^ (w * (n - i)) = mul-le-mul_right (2 ^ (w * (n - i))) (power_small x w i h) in
    let whole : i + (n - i) ≡ n = omega (arith, below) in
    let split : w * n ≡ w * i + w * (n - i) = ap (λ k. w * k) (sym whole) ∙ omega arith in
    let power : 2 ^ (w * n) ≡ 2 ^ (w * i) * 2 ^ (w * (n - i)) = ap (λ k. 2 ^ k) split ∙ pow-add 2 (w * i) (w * (n - i)) in
    omega (arith, step, power)

terms_small : (i : ℕ) (cs : List ℤ) (w n x : ℕ) → All (IsWithin (2 ^ 30)) cs → x ≤ 2 ^ w → i + length cs ≤ n + 1 → w * n ≤ 64
    → unsigned_abs (terms_from i cs w n x) ≤ length cs * 2 ^ 94
terms_small i [] w n x few small room narrow = omega arith
terms_small i (c ∷ cs) w n x few small room narrow =
    let factor : x ^ i * 2 ^ (w * (n - i)) ≤ 2 ^ 64 =
    omega (arith, factor_small x w n i small (omega (arith, room)), power_order (w * n) 64 narrow) in
    let term : unsigned_abs (c *ℤ pos (x ^ i * 2 ^ (w * (n - i)))) ≤ 2 ^ 94 = product_within c (pos (x ^ i * 2 ^ (w * (n - i)))) 30 64
    (few zero c (omega arith)) factor in
    let rest = terms_small (i + 1) cs w n x (λ k d h. few (suc k) d (omega arith)) small (omega (arith, room)) narrow in
    let step = bound_step (terms_from (i + 1) cs w n x) (c *ℤ pos (x ^ i * 2 ^ (w * (n - i)))) (length cs) (2 ^ 94) rest term in
    omega (arith, ints, step)

pub poly_terms_small : (p : Polynomial) (x : ℕ) → IsPoly p → x ≤ 2 ^ p.input.width
    → unsigned_abs (terms_from 0 p.coefs p.input.width (degree p) x) ≤ 5 * 2 ^ 94
poly_terms_small p x fits small =
    let all = terms_small 0 p.coefs p.input.width (degree p) x fits.coefs small (omega (arith, fits.some)) (few_powers p fits) in
    let few : length p.coefs * 2 ^ 94 ≤ 5 * 2 ^ 94 = mul-le-mul_right (2 ^ 94) fits.few in
    omega (arith, all, few)

-- one term more
pub terms_step : (i : ℕ) (cs : List ℤ) (w n x : ℕ) → i < length cs
    → terms_from i (drop i cs) w n x
    ≡ (get_or cs i (pos 0) *ℤ pos (x ^ i * 2 ^ (w * (n - i)))) +ℤ terms_from (i + 1) (drop (i + 1) cs) w n x
terms_step i cs w n x h =
    ap (λ ts. terms_from i ts w n x) (drop-cons cs i (pos 0) h)
    ∙ ap (λ k. (get_or cs i (pos 0) *ℤ pos (x ^ i * 2 ^ (w * (n - i)))) +ℤ terms_from (i + 1) (drop k cs) w n x) (sym (add-one i))

-- the next power has so many places less
pub places_next : (w n i : ℕ) → w * (n - i) - w ≡ w * (n - (i + 1))
places_next w n i = go (n - i) (n - (i + 1)) (omega arith)
  where
    go : (a b : ℕ) → b ≡ a - 1 → w * a - w ≡ w * b
    go zero b e =
        let none : w * b ≡ w * 0 = ap (λ k. w * k) (omega (arith, e)) in
        omega (arith, none)
    go (suc a) b e =
        let same : w * b ≡ w * a = ap (λ k. w * k) (omega (arith, e)) in
        omega (arith, same)

pub next_power_small : (x w i : ℕ) → x ≤ 2 ^ w → w ≤ 16 → i ≤ 4 → x ^ i * x ≤ 2 ^ 80
next_power_small x w i small narrow few =
    let all : w * i ≤ 16 * 4 = mul-le-mul {n₁ = w} {m₁ = i} {n₂ = 16} {m₂ = 4} narrow few in
    let power : x ^ i ≤ 2 ^ 64 = omega (arith, power_small x w i small, power_order (w * i) 64 (omega (arith, all))) in
    mul-le-mul {n₁ = x ^ i} {m₁ = x} {n₂ = 2 ^ 64} {m₂ = 2 ^ 16} power (omega (arith, small, power_order w 16 narrow))

pub next_power : (x i : ℕ) → x ^ i * x ≡ x ^ (i + 1)
next_power x i = omega (arith, pow-suc x i, ap (λ k. x ^ k) (add-one i))
