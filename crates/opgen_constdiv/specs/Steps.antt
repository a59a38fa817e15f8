-- The invariant of a division by a small constant: after each digit, the digits so far as a number are the quotient so far times
-- the divisor, plus a remainder below the divisor.
use Rattle.std.specs.Prelude.{ℕ, ◌*◌, ◌≤◌, ℤ, take, All}
use Rattle.opgen_num.specs.declared.format.TheConstants.{MAX_INPUT}
use Rattle.opgen_num.specs.Rounding.{IsQuotient}
use Rattle.opgen_design.specs.Run.{AreWords}
use Rattle.opgen_net.specs.declared.net.Net.{Net}
use Rattle.opgen_net.specs.Flow.{Inputs}
use Rattle.opgen_net.specs.Placed.{number_at}
use Rattle.opgen_net.specs.Valid.{input_widths}
use Rattle.opgen_constdiv.specs.Rows.{digit_width}
use Rattle.opgen_constdiv.specs.Recipe.{digit_number, dividend, after}

-- the width of an input
pub record IsInput (width : ℕ) : Type 0 where
  pub some : 1 ≤ width
  pub few : width ≤ MAX_INPUT

-- after k digits, at a time, by the words of a net's nodes
abbrev pub HoldsAfter : (width divisor : ℕ) → Net → (k : ℕ) → Inputs → ℤ → Type 0
HoldsAfter width divisor net k inputs t =
    let number = number_at net.nodes inputs t in
    let d = after width divisor k in
    IsQuotient (number (take (k * digit_width divisor) (dividend width divisor))) divisor (number d.quotient) (number d.rest)

-- after each digit, at every time and for all inputs
abbrev pub HoldsAfterEachDigit : (width divisor : ℕ) → Net → Type 0
HoldsAfterEachDigit width divisor net =
    (k : ℕ) → k ≤ digit_number width divisor → (inputs : Inputs) (t : ℤ) → All (AreWords (input_widths net)) inputs
    → HoldsAfter width divisor net k inputs t
