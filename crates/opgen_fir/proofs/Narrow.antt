-- No table of a sum is wider than the sum: the range of the output has room for the whole range of each term.
use Rattle.std.proofs.Common.{◌≡◌, ℕ, zero, suc, ◌+◌, ◌-◌, ◌*◌, ◌^◌, ◌<◌, ◌≤◌, List, [], ◌∷◌, length, get_or, sym, ap, ◌∙◌, arith}
use Rattle.std.specs.Prelude.{ℤ, pos, ◌*ℤ◌, unsigned_abs, map, sum}
use Rattle.std.proofs.Math.Nat.{mul-le-mul_left}
use Rattle.std.proofs.lemmas.Grind.{div_ceil_times}
use Rattle.std.proofs.lemmas.Int.{unsigned_abs-mul}
use Rattle.std.proofs.lemmas.Nat.{pow-add, pow_pos}
use Rattle.opgen_num.specs.declared.format.TheConstants.{MAX_WIDTH}
use Rattle.opgen_num.proofs.RangeWidth.{width-span}
use Rattle.opgen_num.proofs.Integers.{one_more}
use Rattle.opgen_num.proofs.Lists.{sum-cons}
use Rattle.opgen_kinds.specs.declared.sum.Sum.{Sum}
use Rattle.opgen_kinds.specs.Sum.{sum_shift, sum_reach, sum_places, guard_bits, sum_format, IsSum}
use Rattle.opgen_ports.specs.Reaches.{reach_of, above_zero, below_zero, rises, falls, up}
use Rattle.opgen_ports.proofs.InputPorts.{input_bit}
use Rattle.opgen_ports.proofs.Reached.{abs-parts, reach-span}
use Rattle.opgen_kcm.specs.Entries.{in_guard_units}
use Rattle.opgen_kcm.specs.Recipe.{HasNarrowRows}
use Rattle.opgen_kcm.proofs.Narrow.{narrow}
use Rattle.opgen_fir.specs.Recipe.{factor, sum_width}
use Rattle.opgen_fir.specs.Summed.{units}
use Rattle.opgen_fir.proofs.Factors.{den-units, units-some}

-- the range of the output

coef-within : (cs : List ℤ) (k : ℕ) → k < length cs → unsigned_abs (get_or cs k (pos 0)) ≤ rises cs + falls cs
coef-within [] k h = absurd (omega (arith, h))
coef-within (c ∷ cs) zero h =
    let up : rises (c ∷ cs) ≡ above_zero c + rises cs = sum-cons (above_zero c) (map above_zero cs) in
    let down : falls (c ∷ cs) ≡ below_zero c + falls cs = sum-cons (below_zero c) (map below_zero cs) in
    omega (arith, up, down, abs-parts c)
coef-within (c ∷ cs) (suc k) h =
    let up : rises (c ∷ cs) ≡ above_zero c + rises cs = sum-cons (above_zero c) (map above_zero cs) in
    let down : falls (c ∷ cs) ≡ below_zero c + falls cs = sum-cons (below_zero c) (map below_zero cs) in
    omega (arith, up, down, coef-within cs k (omega (arith, h)))

units-span : (s : Sum) → IsSum 256 s → (k : ℕ) → k < length s.coefs
    → unsigned_abs (get_or s.coefs k (pos 0)) * up (sum_shift s) * ((reach_of s.input).below + (reach_of s.input).above)
    ≤ units s * ((sum_places s).below + (sum_places s).above)
units-span s sum k h =
    let r = reach_of s.input in
    let n = unsigned_abs (get_or s.coefs k (pos 0)) in
    let u = up (sum_shift s) in
    let low = (div_ceil_times ((sum_reach s).below * u) (units s) (units-some s sum)).0 in
    let high = (div_ceil_times ((sum_reach s).above * u) (units s) (units-some s sum)).0 in
    let some = mul-le-mul_left (u * (r.below + r.above)) (coef-within s.coefs k h) in
    omega (arith, low, high, some)

-- the rows of each coefficient are no wider than the sum
pub narrow-terms : (s : Sum) → IsSum 256 s → (k : ℕ) → k < length s.coefs → sum_width s ≤ MAX_WIDTH
    → HasNarrowRows (in_guard_units (factor s (get_or s.coefs k (pos 0))) (guard_bits s)) s.input.width s.input.signed
narrow-terms s sum k h fits =
    let c = get_or s.coefs k (pos 0) in
    let g = 2 ^ guard_bits s in
    let u = up (sum_shift s) in
    let m = units s in
    let w = s.input.width in
    let out = (sum_format s).width in
    let q = in_guard_units (factor s c) (guard_bits s) in
    let r = reach_of s.input in
    let span : r.below + r.above ≡ 2 ^ w - 1 = omega (arith, reach-span s.input.signed w (input_bit s.input sum.input)) in
    let size : unsigned_abs q.num ≡ unsigned_abs c * u * g =
    unsigned_abs-mul (c *ℤ pos u) (pos g) ∙ ap (λ n. n * g) (unsigned_abs-mul c (pos u)) in
    let range : (sum_places s).below + (sum_places s).above ≤ 2 ^ out - 1 =
    omega (arith, width-span (sum_places s).below (sum_places s).above) in
    let term = mul-le-mul_left g (units-span s sum k h) in
    let limit = mul-le-mul_left (m * g) range in
    let whole : unsigned_abs c * u * g * (2 ^ w - 1) ≡ g * (unsigned_abs c * u * (r.below + r.above)) =
    ap (λ n. unsigned_abs c * u * g * n) (sym span) ∙ omega arith in
    let room : (2 ^ w - 1) * unsigned_abs q.num ≤ m * (g * (2 ^ out - 1)) =
    omega (arith, ap (λ n. (2 ^ w - 1) * n) size, whole, term, limit) in
    let power : 2 ^ sum_width s ≡ 2 ^ out * g = pow-add 2 out (guard_bits s) in
    let below : g * (2 ^ out - 1) < 2 ^ sum_width s = omega (arith, one_more g (2 ^ out) (pow_pos out), power, pow_pos (guard_bits s)) in
    narrow q m (g * (2 ^ out - 1)) (sum_width s) w s.input.signed (units-some s sum) (den-units s c sum) room below fits
