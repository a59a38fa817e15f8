-- Nonrestoring division of numbers (de Dinechin and Kumm, Application-Specific Arithmetic; Ercegovac and Lang, Division and Square
-- Root). Each step doubles the partial remainder and takes a bit of the numerator in. It subtracts the divisor where the remainder
-- before was not negative, which is the digit 1 of the quotient, and else adds it, which is the digit -1.
use Rattle.std.specs.Prelude.{ℕ, zero, suc, ◌≡◌, ◌+◌, Bool, true, false, ℤ, pos, negsuc, neg_ℤ, ◌+ℤ◌, ◌-ℤ◌, ◌*ℤ◌, ◌≤ℤ◌, ◌<ℤ◌, if◌then◌else◌}
use Rattle.opgen_num.specs.Words.{digit}

-- the quotient so far, the sum of the digits -1 and 1 times their powers of 2, and the remainder so far
pub record Partial : Type 0 where
  pub quotient : ℤ
  pub remainder : ℤ

abbrev pub is_not_negative : ℤ → Bool
is_not_negative (pos n) = true
is_not_negative (negsuc n) = false

-- one step, by the next bit of the numerator
abbrev pub next_partial : (b : ℕ) → Partial → Bool → Partial
next_partial b p bit =
    let doubled = (pos 2 *ℤ p.remainder) +ℤ pos (digit bit) in
    let subtracts = is_not_negative p.remainder in
    record {
      quotient = (pos 2 *ℤ p.quotient) +ℤ (if subtracts then pos 1 else negsuc 0);
      remainder = if subtracts then doubled -ℤ pos b else doubled +ℤ pos b;
    }

-- after so many steps, with a bit of the numerator for each, the highest first
abbrev pub partial_after : (b : ℕ) → (bit : ℕ → Bool) → (steps : ℕ) → Partial
partial_after b bit zero = record { quotient = pos 0; remainder = pos 0 }
partial_after b bit (suc k) = next_partial b (partial_after b bit k) (bit k)

-- The invariant. The bits of the numerator so far, as a number n, are the quotient times the divisor b plus the remainder, which is
-- at most b in size, and less than b where it is not negative. The digits 0 and 1 that make a number q have a last digit of 1 where
-- the remainder is not negative. The quotient is q, or where the remainder is negative one more, for the last subtraction was one
-- too many.
pub record IsInvariant (n b q : ℕ) (last : Bool) (p : Partial) : Type 0 where
  pub equation : pos n ≡ (p.quotient *ℤ pos b) +ℤ p.remainder
  pub at_least : neg_ℤ (pos b) ≤ℤ p.remainder
  pub below : p.remainder <ℤ pos b
  pub last_digit : last ≡ is_not_negative p.remainder
  pub binary : p.quotient ≡ pos (if last then q else q + 1)
