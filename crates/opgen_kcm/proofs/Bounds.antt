-- The numbers of the tables stand in 128 bits.
use Rattle.std.proofs.Common.{◌≡◌, ℕ, zero, suc, ◌+◌, ◌*◌, ◌^◌, ◌<◌, ◌≤◌, FitsSigned, refl, sym, ap, ◌∙◌, arith}
use Rattle.std.specs.Prelude.{ℤ, pos, negsuc, ◌-ℤ◌, unsigned_abs}
use Rattle.std.specs.Int.{w128}
use Rattle.std.proofs.Math.Nat.{two-pow-succ, mul-le-mul_left, pow-le-pow_right}
use Rattle.std.proofs.lemmas.Int.{ints, fits_signed_from_abs}
use Rattle.std.proofs.lemmas.Nat.{pow-add}
use Rattle.opgen_num.specs.Rounding.{distance}
use Rattle.opgen_num.proofs.BitLength.{power_order, power_cancel}

pub small-fits : (e : ℤ) → unsigned_abs e < 2 ^ 126 → FitsSigned w128 e
small-fits e h = fits_signed_from_abs w128 e (omega (arith, h))

pub difference-small : (e f : ℤ) → unsigned_abs e < 2 ^ 126 → unsigned_abs f < 2 ^ 126 → distance e f < 2 ^ 127
difference-small e f h k = omega (arith, ints, h, k)

pub difference-fits : (e f : ℤ) → unsigned_abs e < 2 ^ 126 → unsigned_abs f < 2 ^ 126 → FitsSigned w128 (e -ℤ f)
difference-fits e f h k = fits_signed_from_abs w128 (e -ℤ f) (difference-small e f h k)

-- a digit with its weight
pub digit-small : (digit low width : ℕ) → digit ≤ 2 ^ width → digit * 2 ^ low ≤ 2 ^ (low + width)
digit-small digit low width h = omega (arith, mul-le-mul_left (2 ^ low) h, pow-add 2 low width)

pub digit-below : (digit low width : ℕ) → digit ≤ 2 ^ width → low + width ≤ 48 → digit * 2 ^ low < 2 ^ 126
digit-below digit low width h within =
    let most : 2 ^ (low + width) ≤ 2 ^ 48 = pow-le-pow_right {n = 2} (omega arith) {i = low + width} {j = 48} within in
    omega (arith, digit-small digit low width h, most)

-- its multiple, in halves of a unit with the denominator
pub multiple-small : (digit low width num den bound : ℕ) → digit ≤ 2 ^ width → num * 2 ^ (low + width + 1) + den < bound
    → 2 * (digit * 2 ^ low * num) + den < bound
multiple-small digit low width num den bound h room =
    let next : 2 ^ (low + width + 1) ≡ 2 ^ (low + width) + 2 ^ (low + width) = ap (λ n. 2 ^ n) (omega arith) ∙ two-pow-succ (low + width) in
    let whole : num * 2 ^ (low + width + 1) ≡ 2 * (num * 2 ^ (low + width)) = ap (λ n. num * n) next ∙ omega arith in
    omega (arith, whole, room, mul-le-mul_left num (digit-small digit low width h))

-- and so do the fraction's own
pub factor-small : (num den power bound : ℕ) → 1 ≤ power → num * power + den < bound → (num < bound) × (den < bound)
factor-small num den power bound some room =
    let least : num * 1 ≤ num * power = mul-le-mul_left num some in (omega (arith, room, least), omega (arith, room))

pub abs-some : (z : ℤ) → (z ≡ pos 0 → ⊥) → 1 ≤ unsigned_abs z
abs-some (pos zero) h = absurd (h refl)
abs-some (pos (suc n)) h = omega arith
abs-some (negsuc n) h = omega arith

-- of a fraction with guard bits
pub guard-few : (num width guard den : ℕ) → 1 ≤ num → num * 2 ^ (width + guard + 1) + den < 2 ^ 126 → guard < 126
guard-few num width guard den some room =
    let least : 1 * 2 ^ (width + guard + 1) ≤ num * 2 ^ (width + guard + 1) =
    omega (arith, mul-le-mul_left (2 ^ (width + guard + 1)) some) in
    let few : width + guard + 1 < 126 =
    power_cancel (width + guard + 1) 126 (num * 2 ^ (width + guard + 1)) (omega (arith, least)) (omega (arith, room)) in
    omega (arith, few)

pub scaled-small : (num width guard den : ℕ) → num * 2 ^ (width + guard + 1) + den < 2 ^ 126 → num * 2 ^ guard < 2 ^ 126
scaled-small num width guard den room =
    let more : 2 ^ guard ≤ 2 ^ (width + guard + 1) = power_order guard (width + guard + 1) (omega arith) in
    omega (arith, room, mul-le-mul_left num more)

pub scaled-room : (num width guard den some_width : ℕ) → some_width ≤ width → num * 2 ^ (width + guard + 1) + den < 2 ^ 126
    → num * 2 ^ guard * 2 ^ (some_width + 1) + den < 2 ^ 126
scaled-room num width guard den some_width within room =
    let power : 2 ^ guard * 2 ^ (some_width + 1) ≡ 2 ^ (guard + (some_width + 1)) = sym (pow-add 2 guard (some_width + 1)) in
    let more : 2 ^ (guard + (some_width + 1)) ≤ 2 ^ (width + guard + 1) =
    power_order (guard + (some_width + 1)) (width + guard + 1) (omega (arith, within)) in
    let product : num * 2 ^ guard * 2 ^ (some_width + 1) ≡ num * 2 ^ (guard + (some_width + 1)) = omega (arith, ap (λ n. num * n) power) in
    omega (arith, room, product, mul-le-mul_left num more)
