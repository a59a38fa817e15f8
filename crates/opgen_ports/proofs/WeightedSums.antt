-- Sums of inputs times coefficients.
use Rattle.std.proofs.Common.{◌≡◌, ℕ, ◌+◌, ◌<◌, List, [], ◌∷◌, refl, ap₂, length, get_or, drop, ap, ◌∙◌, sym, add-one, drop-cons, arith, ◌*◌, ◌≤◌, ◌^◌}
use Rattle.std.proofs.lemmas.Int.{ints}
use Rattle.std.proofs.lemmas.Nat.{pow-add}
use Rattle.std.proofs.Math.Nat.{mul-le-mul_right}
use Rattle.std.specs.Prelude.{ℤ, pos, ◌+ℤ◌, ◌*ℤ◌, unsigned_abs}
use Rattle.opgen_num.proofs.BitLength.{power_order}
use Rattle.opgen_ports.specs.Ports.{Recent, weighted_from}

-- one more term of a sum
pub weighted-step : (ago i : ℕ) (coefs : List ℤ) (x : Recent) → i < length coefs
    → weighted_from ago (drop i coefs) x ≡ (x ago *ℤ get_or coefs i (pos 0)) +ℤ weighted_from (ago + 1) (drop (i + 1) coefs) x
weighted-step ago i coefs x h =
    ap (λ cs. weighted_from ago cs x) (drop-cons coefs i (pos 0) h)
    ∙ ap (λ k. (x ago *ℤ get_or coefs i (pos 0)) +ℤ weighted_from (ago + 1) (drop k coefs) x) (sym (add-one i))

-- a sum depends on as many inputs as it has terms
pub weighted-same : (ago : ℕ) (coefs : List ℤ) (x y : Recent) → ((k : ℕ) → k < ago + length coefs → x k ≡ y k)
    → weighted_from ago coefs x ≡ weighted_from ago coefs y
weighted-same ago [] x y same = refl
weighted-same ago (c ∷ cs) x y same =
    ap₂ (λ a b. (a *ℤ c) +ℤ b) (same ago (omega arith)) (weighted-same (ago + 1) cs x y (λ k h. same k (omega (arith, h))))

pub sum_step : (total term whole : ℤ) (ago i : ℕ) (coefs : List ℤ) (x : Recent) → i < length coefs → term ≡ x ago *ℤ get_or coefs i (pos 0)
    → (total +ℤ weighted_from ago (drop i coefs) x) ≡ whole → ((total +ℤ term) +ℤ weighted_from (ago + 1) (drop (i + 1) coefs) x) ≡ whole
sum_step total term whole ago i coefs x h e so_far = omega (arith, ints, weighted-step ago i coefs x h)

pub bound_step : (total term : ℤ) (i most : ℕ) → unsigned_abs total ≤ i * most → unsigned_abs term ≤ most
    → unsigned_abs (total +ℤ term) ≤ (i + 1) * most
bound_step total term i most h g = omega (arith, ints)

-- a sum of up to 256 terms, each of an input of a width and a coefficient
pub taps_bound : (n count w : ℕ) → n ≤ count * 2 ^ (w + 30) → count ≤ 256 → n ≤ 2 ^ (w + 38)
taps_bound n count w h few =
    let most : count * 2 ^ (w + 30) ≤ 256 * 2 ^ (w + 30) = mul-le-mul_right (2 ^ (w + 30)) few in
    let power : 2 ^ (w + 38) ≡ 2 ^ (w + 30) * 2 ^ 8 = ap (λ k. 2 ^ k) (omega arith) ∙ pow-add 2 (w + 30) 8 in
    omega (arith, h, most, power)

pub sum_small : (n i w : ℕ) {count : ℕ} → n ≤ (i + 1) * 2 ^ (w + 30) → i < count → count ≤ 256 → w ≤ 48 → n ≤ 2 ^ 126
sum_small n i w h here few narrow = omega (
  arith,
  taps_bound n (i + 1) w h (omega (arith, here, few)),
  power_order (w + 38) 126
      (omega (arith, narrow)),
)
