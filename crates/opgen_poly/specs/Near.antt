-- Error bounds of Horner's rule in fixed point: how near its partial values are to the exact ones.
use Rattle.std.specs.Prelude.{ℕ, ◌≡◌, ◌+◌, ◌-◌, ◌*◌, ◌^◌, ◌<◌, [], ◌∷◌, All, drop, slice_index, ℤ, pos, ◌*ℤ◌, ◌<ℤ◌, ◌≤ℤ◌}
use Rattle.opgen_num.specs.declared.format.Ratio.{Ratio}
use Rattle.opgen_num.specs.Rounding.{distance}
use Rattle.opgen_num.specs.Words.{int, nat}
use Rattle.opgen_design.specs.Run.{AreWords}
use Rattle.opgen_net.specs.declared.net.Net.{Net}
use Rattle.opgen_net.specs.Flow.{Inputs, input_at, flow}
use Rattle.opgen_net.specs.Grown.{HasGrown}
use Rattle.opgen_net.specs.Valid.{IsValid, widths, input_widths}
use Rattle.opgen_kinds.specs.declared.poly.Poly.{Poly as Polynomial}
use Rattle.opgen_kinds.specs.Horner.{degree, result_places, poly_guard, all_guarded, low_end, high_end}
use Rattle.opgen_kinds.specs.Poly.{terms_from}
use Rattle.opgen_poly.specs.declared.steps.Partial.{Partial}
use Rattle.opgen_poly.specs.Recipe.{partial_from, width_at, with_input}

-- The exact partial value at an input of x / 2 ^ w, in units of the lowest guard bit: the polynomial of the coefficients from a place on.
abbrev pub exact_from : Polynomial → (place x : ℕ) → Ratio
exact_from p place x = record {
  num = terms_from 0 (drop place p.coefs) p.input.width (degree p - place) x *ℤ pos (2 ^ (result_places p + poly_guard p));
  den = p.den *ℤ pos (2 ^ (p.input.width * (degree p - place)));
}

-- a number is less than half of so many units from a fraction, or at most
abbrev pub IsLessThanHalves : (halves : ℕ) → Ratio → ℤ → Type 0
IsLessThanHalves halves e y = (pos 2 *ℤ pos (distance (e.den *ℤ y) e.num)) <ℤ (e.den *ℤ pos halves)

abbrev pub IsAtMostHalves : (halves : ℕ) → Ratio → ℤ → Type 0
IsAtMostHalves halves e y = (pos 2 *ℤ pos (distance (e.den *ℤ y) e.num)) ≤ℤ (e.den *ℤ pos halves)

-- Half a unit of the last coefficient, and three halves of each step: its coefficient, what it leaves out, and its cut.
abbrev pub halves_from : Polynomial → (place : ℕ) → ℕ
halves_from p place = 3 * (degree p - place) + 1

-- the input's number at a time
abbrev pub input_number : Polynomial → Inputs → ℤ → ℕ
input_number p inputs t = nat (input_at inputs 0 p.input.width t)

-- Each partial value but the first, which is the last coefficient, and the last, which is the output, is less than
-- (3 * (n - i) + 1) / 2 from the exact one, at every time and for all inputs.
abbrev pub ArePartialsNear : Polynomial → Net → Type 0
ArePartialsNear p net =
    (place : ℕ) → 0 < place → place < degree p → (inputs : Inputs) (t : ℤ) → All (AreWords (input_widths net)) inputs
    → IsLessThanHalves (halves_from p place) (exact_from p place (input_number p inputs t))
    (int (flow net.nodes inputs (partial_from p place).node t))

-- The partial value of the coefficients from a place on stands in a net that has grown from the input, within its ends.
pub record IsPartial (p : Polynomial) (place : ℕ) (s : Partial) : Type 0 where
  pub valid : IsValid s.net
  pub grown : HasGrown (with_input p) s.net
  pub wide : slice_index (widths s.net.nodes) s.node ≡ width_at p place
  pub low : (inputs : Inputs) (t : ℤ) → All (AreWords (p.input.width ∷ [])) inputs
      → low_end (drop place (all_guarded p)) ≤ℤ int (flow s.net.nodes inputs s.node t)
  pub high : (inputs : Inputs) (t : ℤ) → All (AreWords (p.input.width ∷ [])) inputs
      → int (flow s.net.nodes inputs s.node t) ≤ℤ high_end (drop place (all_guarded p))
  pub near : (inputs : Inputs) (t : ℤ) → All (AreWords (p.input.width ∷ [])) inputs
      → IsAtMostHalves (halves_from p place) (exact_from p place (input_number p inputs t)) (int (flow s.net.nodes inputs s.node t))
  pub nearer : (inputs : Inputs) (t : ℤ) → All (AreWords (p.input.width ∷ [])) inputs → place < degree p
      → IsLessThanHalves (halves_from p place) (exact_from p place (input_number p inputs t)) (int (flow s.net.nodes inputs s.node t))
