-- What holds of each of one port or two, and of input ports.
use Rattle.std.proofs.Common.{[], ◌∷◌, ℕ, zero, ◌≤◌, arith, Bool, true, false}
use Rattle.std.proofs.lemmas.List.Elements.{All-cons, All-nil}
use Rattle.std.specs.Prelude.{All, codes}
use Rattle.opgen_num.specs.declared.format.Format.{Format}
use Rattle.opgen_num.specs.Formats.{fewest_bits}
use Rattle.opgen_ports.specs.declared.ports.PortFormat.{PortFormat}
use Rattle.opgen_ports.specs.Ports.{port, one_input}
use Rattle.opgen_ports.specs.Ranges.{IsInput}

pub all_one : (P : PortFormat → Type 0) (p : PortFormat) → P p → All P (p ∷ [])
all_one P p h = All-cons P p [] h (All-nil P)

pub all_two : (P : PortFormat → Type 0) (p r : PortFormat) → P p → P r → All P (p ∷ r ∷ [])
all_two P p r h g = All-cons P p (r ∷ []) h (all_one P r g)

-- the width of an only input
pub only_within : (most : ℕ) (f : Format) → All (λ (p : PortFormat). p.format.width ≤ most) (one_input f) → f.width ≤ most
only_within most f each = each zero (port (codes "x") f) (omega arith)

-- an input has one bit or more
pub some_bits : (signed : Bool) (width : ℕ) → fewest_bits signed ≤ width → 1 ≤ width
some_bits false width h = h
some_bits true width h = omega (arith, h)

pub input_bit : (f : Format) → IsInput f → 1 ≤ f.width
input_bit f is = some_bits f.signed f.width is.fewest

abbrev pub HasBit : PortFormat → Type 0
HasBit p = 1 ≤ p.format.width
