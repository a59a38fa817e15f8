-- What the nodes of a nonrestoring division have at each time: after each step the invariant of the recurrence, and at the end the
-- quotient and the remainder.
use Rattle.std.specs.Prelude.{ℕ, ◌+◌, ◌-◌, ◌*◌, ◌<◌, ◌≤◌, ◌≡◌, ℤ, ◌-ℤ◌, negsuc, Bool, true, List, take, length, slice_index, slice_index_or, All, if◌then◌else◌}
use Rattle.opgen_num.specs.declared.format.TheConstants.{MAX_WIDTH}
use Rattle.opgen_num.specs.Rounding.{IsQuotient}
use Rattle.opgen_num.specs.Words.{int, nat}
use Rattle.opgen_design.specs.Run.{AreWords}
use Rattle.opgen_net.specs.declared.net.Net.{Net}
use Rattle.opgen_net.specs.declared.word_bits.WordBit.{WordBit}
use Rattle.opgen_net.specs.declared.word_bits.WordBit.TheVariants.{Zero, Of}
use Rattle.opgen_net.specs.Flow.{Inputs, flow}
use Rattle.opgen_net.specs.Placed.{number_at}
use Rattle.opgen_net.specs.Valid.{input_widths, widths}
use Rattle.opgen_net.specs.WordRule.{bit_flow}
use Rattle.opgen_digits.specs.Digit.{Known}
use Rattle.opgen_nonrestoring.specs.declared.Divisor.{Divisor}
use Rattle.opgen_nonrestoring.specs.Recurrence.{Partial, partial_after, IsInvariant}
use Rattle.opgen_nonrestoring.specs.Recipe.{Division, after}

-- a node that is there, of so many bits, with room for a bit more
pub record IsDivisor (net : Net) (divisor : Divisor) : Type 0 where
  pub some : 1 ≤ divisor.width
  pub few : divisor.width + 1 ≤ MAX_WIDTH
  pub wide : slice_index (widths net.nodes) divisor.node ≡ divisor.width

-- the nodes that a step reads
pub record AreReady (width : ℕ) (d : Division) : Type 0 where
  pub before : slice_index (widths d.net.nodes) d.before ≡ 1
  pub last : slice_index (widths d.net.nodes) d.last ≡ 1
  pub sum : slice_index (widths d.net.nodes) d.sum ≡ width + 1

-- the recurrence on the words of a net at a time, after so many steps
abbrev pub partial_at : Net → Inputs → ℤ → (numerator : List WordBit) → Divisor → (steps : ℕ) → Partial
partial_at net inputs t numerator divisor steps =
    partial_after (nat (flow net.nodes inputs divisor.node t)) (λ k. bit_flow net.nodes inputs t (slice_index_or numerator k Zero)) steps

-- Nodes of a net hold a step of the recurrence at a time: the invariant is met by the numerator's bits so far, the divisor and the
-- digits, and the sum is the remainder, or its complement where the digit before the last is 1.
pub record HoldsStep (net : Net) (inputs : Inputs) (t : ℤ) (taken : List WordBit) (divisor : Divisor) (d : Division) (p : Partial) : Type 0 where
  pub invariant :
      IsInvariant (number_at net.nodes inputs t taken) (nat (flow net.nodes inputs divisor.node t)) (number_at net.nodes inputs t d.digits)
      (bit_flow net.nodes inputs t (Of d.last 0)) p
  pub sum :
      let s = int (flow net.nodes inputs d.sum t) in
      p.remainder ≡ (if bit_flow net.nodes inputs t (Of d.before 0) then negsuc 0 -ℤ s else s)

-- after each step, at every time and for all inputs, if the divisor is not 0
abbrev pub HoldsAfterEachStep : (numerator : List WordBit) → Divisor → (old new : Net) → Type 0
HoldsAfterEachStep numerator divisor old new =
    (k : ℕ) → k ≤ length numerator → (inputs : Inputs) (t : ℤ) → All (AreWords (input_widths new)) inputs
    → 0 < nat (flow new.nodes inputs divisor.node t)
    → HoldsStep new inputs t (take k numerator) divisor (after numerator divisor old k) (partial_at new inputs t numerator divisor k)

-- The digits are the quotient of n by b rounded down, and the rest, where it is exact, is the remainder.
pub record IsQuotientOf (exact : Bool) (n b q rest : ℕ) : Type 0 where
  pub quotient : IsQuotient n b q (n - q * b)
  pub remainder : exact ≡ true → rest ≡ n - q * b

-- at every time and for all inputs, if the divisor is not 0
abbrev pub HasQuotient : (exact : Bool) → (numerator : List WordBit) → Divisor → Known → Type 0
HasQuotient exact numerator divisor known =
    (inputs : Inputs) (t : ℤ) → All (AreWords (input_widths known.net)) inputs
    → let number = number_at known.net.nodes inputs t in
    let b = nat (flow known.net.nodes inputs divisor.node t) in
    0 < b → IsQuotientOf exact (number numerator) b (number known.digits) (number known.rest)
