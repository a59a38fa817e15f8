-- Judging fractions.
use Rattle.std.proofs.Common.{◌≡◌, ◌↔◌, Bool, IsTrue, ℕ, ◌^◌, arith, ◌≢◌, zero, suc, refl}
use Rattle.std.proofs.lemmas.Int.{ints}
use Rattle.std.proofs.lemmas.Nat.{pow_pos}
use Rattle.std.specs.Prelude.{ℤ, pos, negsuc, ◌*ℤ◌, ◌<ℤ◌, ◌≤ℤ◌}
use Rattle.opgen_num.specs.declared.mode.Mode.{Mode}
use Rattle.opgen_num.specs.Rounding.{IsGoodLinear, IsQuotient, IsRoot, IsGoodRoot}
use Rattle.opgen_ports.proofs.Bounds.{some_product}

pub good-along : (b : Bool) (mode : Mode) (n n' m m' y y' : ℤ) → n ≡ n' → m ≡ m' → y ≡ y' → (IsTrue b ↔ IsGoodLinear n m y mode)
    → IsTrue b ↔ IsGoodLinear n' m' y' mode
good-along b mode n n' m m' y y' num den out h = rw (num, den, out) at h

pub positive_units : (d : ℤ) (k : ℕ) → pos 1 ≤ℤ d → pos 0 <ℤ (d *ℤ pos (2 ^ k))
positive_units (pos d) k h = omega (arith, ints, some_product d (2 ^ k) (omega (arith, ints)) (pow_pos k))
positive_units (negsuc d) k h = absurd (omega (arith, ints))

pub quotient-along : (a : Bool) (n n' b b' q q' r r' : ℕ) → n ≡ n' → b ≡ b' → q ≡ q' → r ≡ r' → (IsTrue a ↔ IsQuotient n b q r)
    → IsTrue a ↔ IsQuotient n' b' q' r'
quotient-along a n n' b b' q q' r r' en eb eq er h = rw (en, eb, eq, er) at h

pub root-along : (a : Bool) (n n' y y' r r' : ℕ) → n ≡ n' → y ≡ y' → r ≡ r' → (IsTrue a ↔ IsRoot n y r) → IsTrue a ↔ IsRoot n' y' r'
root-along a n n' y y' r r' en ey er h = rw (en, ey, er) at h

pub good_root-along : (a : Bool) (n n' y y' : ℕ) → n ≡ n' → y ≡ y' → (IsTrue a ↔ IsGoodRoot n y) → IsTrue a ↔ IsGoodRoot n' y'
good_root-along a n n' y y' en ey h = rw (en, ey) at h

pub zero_if : (b : ℤ) → ¬ (b ≢ pos 0) → b ≡ pos 0
zero_if (pos zero) none = refl
zero_if (pos (suc n)) none = absurd (none (λ e. omega (arith, ints)))
zero_if (negsuc n) none = absurd (none (λ e. omega (arith, ints)))
