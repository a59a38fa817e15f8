-- Quotients and roots rounded down are determined by what they are of.
use Rattle.std.proofs.Common.{◌≡◌, ℕ, ◌+◌, ◌-◌, ◌*◌, ◌/◌, ◌%◌, ◌≤◌, ◌<◌, ⊎_elim, sym, ap, ◌∙◌, arith}
use Rattle.std.proofs.Math.Nat.{mul-le-mul}
use Rattle.std.proofs.lemmas.Nat.{div-mul-add, div-add-mod'}
use Rattle.std.proofs.lemmas.Bool.{cases_lt}
use Rattle.opgen_num.specs.Rounding.{IsQuotient, IsRoot}

pub quotient_only : (n b q r : ℕ) → IsQuotient n b q r → (q ≡ n / b) × (r ≡ n % b)
quotient_only n b q r h =
    let quotient : q ≡ n / b = sym (ap (λ m. m / b) (h.0) ∙ div-mul-add q b r (h.1)) in
    (quotient, omega (arith, ap (λ m. m * b) quotient, div-add-mod' n b, h.0))

pub quotient_if : (n b q r : ℕ) → 0 < b → q ≡ n / b → r ≡ n % b → IsQuotient n b q r
quotient_if n b q r some quotient rest = (omega (arith, ap (λ m. m * b) quotient, div-add-mod' n b), omega arith)

square_step : (a b : ℕ) → a < b → (a + 1) * (a + 1) ≤ b * b
square_step a b h = mul-le-mul {n₁ = a + 1} {m₁ = a + 1} {n₂ = b} {m₂ = b} (omega arith) (omega arith)

pub root_only : (n root y r : ℕ) → root * root ≤ n → n < (root + 1) * (root + 1) → IsRoot n y r → y ≡ root
root_only n root y r low high h =
    ⊎_elim
    (λ (t : y < root). absurd (omega (arith, square_step y root t, h.0, h.1)))
    (λ (t : root ≤ y). ⊎_elim (λ (u : root < y). absurd (omega (arith, square_step root y u, h.0))) (λ (u : y ≤ root). omega arith)
    (cases_lt root y))
    (cases_lt y root)

pub root_if : (n root y r : ℕ) → root * root ≤ n → n < (root + 1) * (root + 1) → y ≡ root → r ≡ n - root * root → IsRoot n y r
root_if n root y r low high same rest =
    let square : y * y ≡ root * root = ap (λ k. k * k) same in
    (omega (arith, square), omega (arith, square))

pub root_rest : (n root y r : ℕ) → y ≡ root → IsRoot n y r → r ≡ n - root * root
root_rest n root y r same h =
    let square : y * y ≡ root * root = ap (λ k. k * k) same in
    omega (arith, square, h.0)
