-- How many binary digits a number has.
use Rattle.std.proofs.Common.{◌≡◌, ℕ, suc, ◌-◌, ◌^◌, ◌<◌, ◌≤◌, ⊎_elim, arith}
use Rattle.std.proofs.Math.Nat.{two-pow-succ, pow-le-pow_right}
use Rattle.std.proofs.lemmas.Bool.{cases_lt}
use Rattle.std.proofs.lemmas.Nat.{leading_length}
use Rattle.std.specs.Int.Count.{count_leading_zeros}

pub power_order : (i j : ℕ) → i ≤ j → 2 ^ i ≤ 2 ^ j
power_order i j h = pow-le-pow_right (omega arith) h

pub power_cancel : (i j n : ℕ) → 2 ^ i ≤ n → n < 2 ^ j → i < j
power_cancel i j n low high = ⊎_elim (λ (t : i < j). t) (λ (t : j ≤ i). absurd (omega (arith, power_order j i t))) (cases_lt i j)

-- a width less its leading zeros
pub length_holds : (k n : ℕ) → n < 2 ^ k → n < 2 ^ (k - count_leading_zeros k n)
length_holds k n h =
    let p = leading_length k n h in
    let e : k - count_leading_zeros k n ≡ p.0 = omega arith in
    rw e p.2

pub length_least : (k n : ℕ) → n < 2 ^ k → (g : ℕ) → n < 2 ^ g → k - count_leading_zeros k n ≤ g
length_least k n h g l =
    let p = leading_length k n h in
    let e : k - count_leading_zeros k n ≡ p.0 = omega arith in
    rw e (⊎_elim (λ (t : g < p.0). absurd (omega (arith, power_order (suc g) p.0 t, two-pow-succ g))) (λ (t : p.0 ≤ g). t) (cases_lt g p.0))
