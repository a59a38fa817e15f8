-- Small numbers, and their words of 64 bits.
use mir.Val.{of_z, to_z}
use Rattle.std.proofs.Common.{◌≡◌, ℕ, ◌≤◌, FitsSigned, ap, ◌∙◌, arith}
use Rattle.std.specs.Prelude.{ℤ, pos, unsigned_abs}
use Rattle.std.specs.Int.{w64}
use Rattle.std.proofs.lemmas.Int.{ints, to_z-of_z}

-- a small number is that of its word
pub same_number : (t : ℤ) → unsigned_abs t ≤ 1048575 → to_z w64 (of_z w64 t) ≡ t
same_number t small = let fits : FitsSigned w64 t = omega (arith, ints) in to_z-of_z w64 t fits

pub word_of : (n : ℕ) (z : ℤ) → n ≤ 1048575 → z ≡ pos n → to_z w64 (of_z w64 z) ≡ pos n
word_of n z small e = ap (λ y. to_z w64 (of_z w64 y)) e ∙ same_number (pos n) small
