-- The invariant of a division: after each step, the bits of the numerator so far, as a number, are the quotient so far times the
-- divisor, plus a remainder, with restoring one below the divisor.
use Rattle.std.specs.Prelude.{ℕ, ◌≡◌, ◌<◌, ◌≤◌, ℤ, Bool, true, false, take, All, unsigned_abs}
use Rattle.opgen_num.specs.Rounding.{IsQuotient}
use Rattle.opgen_num.specs.Words.{val, nat}
use Rattle.opgen_design.specs.Run.{AreWords}
use Rattle.opgen_net.specs.declared.net.Net.{Net}
use Rattle.opgen_net.specs.Flow.{Inputs, flow}
use Rattle.opgen_net.specs.Valid.{input_widths}
use Rattle.opgen_kinds.specs.declared.pair.Pair.{Pair}
use Rattle.opgen_net.specs.Placed.{number_at}
use Rattle.opgen_ports.specs.declared.recipes.Recurrence.{Recurrence}
use Rattle.opgen_ports.specs.declared.recipes.Recurrence.TheVariants.{Restoring, Nonrestoring}
use Rattle.opgen_nonrestoring.specs.Steps as nonrestoring
use Rattle.opgen_divide.specs.Recipe.{with_magnitudes, numerator, digit_count, keeps, after, divisor_node}

-- n is q times b and r, or, where r is not kept, some other rest
abbrev pub IsDivided : (keep : Bool) → (n b q r : ℕ) → Type 0
IsDivided true n b q r = IsQuotient n b q r
IsDivided false n b q r = (rest : ℕ) × IsQuotient n b q rest

-- after k steps, at a time at which the divisor is not 0, by the words of a net's nodes; of signed inputs the absolute values
abbrev pub HoldsAfter : Pair → Net → (k : ℕ) → Inputs → ℤ → Type 0
HoldsAfter p net k inputs t =
    let number = number_at net.nodes inputs t in
    let b = nat (flow net.nodes inputs (with_magnitudes p).divisor t) in
    0 < b → IsDivided (keeps p k) (number (take k (numerator p))) b (number (after p k).digits) (number (after p k).rest)

-- after each step, at every time and for all inputs, by the recurrence
abbrev pub HoldsByRecurrence : Recurrence → Pair → Net → Type 0
HoldsByRecurrence Restoring p net =
    (k : ℕ) → k ≤ digit_count p → (inputs : Inputs) (t : ℤ) → All (AreWords (input_widths net)) inputs → HoldsAfter p net k inputs t
HoldsByRecurrence Nonrestoring p net = nonrestoring.HoldsAfterEachStep (numerator p) (divisor_node p) (with_magnitudes p).net net

abbrev pub HoldsAfterEachStep : Pair → Net → Type 0
HoldsAfterEachStep p net = HoldsByRecurrence p.recurrence p net

-- at every time and for all inputs, what is divided are the sizes of the inputs: their absolute values, or they themselves
abbrev pub DividesSizes : Pair → Net → Type 0
DividesSizes p net =
    let m = with_magnitudes p in
    (inputs : Inputs) (t : ℤ) → All (AreWords (input_widths net)) inputs
    → (nat (flow net.nodes inputs m.dividend t) ≡ unsigned_abs (val (flow net.nodes inputs 0 t) p.a))
    × (nat (flow net.nodes inputs m.divisor t) ≡ unsigned_abs (val (flow net.nodes inputs 1 t) p.b))
