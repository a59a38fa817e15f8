-- How far sums over inputs go below and above 0, and shifts: as factors of a fraction, up of the numerator and down of the
-- denominator.
use Rattle.std.specs.Int.{div_ceil}
use Rattle.std.specs.Prelude.{ℕ, Bool, false, ◌+◌, ◌*◌, ◌^◌, ℤ, pos, neg_ℤ, unsigned_abs, ◌-◌, List, map, true, negsuc, sum, max, ◌%◌, ◌==◌}
use Rattle.opgen_num.specs.declared.format.Format.{Format}
use Rattle.opgen_num.specs.Formats.{range_width}
use Rattle.opgen_ports.specs.declared.reach.Reach.{Reach}

-- a shift as a factor of the numerator, and as one of the denominator
abbrev pub places_up : ℤ → ℕ
places_up (pos n) = n
places_up (negsuc n) = 0

abbrev pub places_down : ℤ → ℕ
places_down (pos n) = 0
places_down (negsuc n) = n + 1

abbrev pub up : ℤ → ℕ
up s = 2 ^ places_up s

abbrev pub down : ℤ → ℕ
down s = 2 ^ places_down s

-- the coefficient c * 2 ^ s / d is whole
abbrev pub is_whole_at : (den shift c : ℤ) → Bool
is_whole_at den s c = (unsigned_abs c * up s) % (unsigned_abs den * down s) == 0

-- how far the numbers of a format go below and above 0
abbrev pub reach_with : (signed : Bool) (width : ℕ) → Reach
reach_with true width = record { below = 2 ^ (width - 1); above = 2 ^ (width - 1) - 1 }
reach_with false width = record { below = 0; above = 2 ^ width - 1 }

abbrev pub reach_of : Format → Reach
reach_of f = reach_with f.signed f.width

-- a coefficient above 0, and one below it without its sign
abbrev pub above_zero : ℤ → ℕ
above_zero (pos n) = n
above_zero (negsuc n) = 0

abbrev pub below_zero : ℤ → ℕ
below_zero (pos n) = 0
below_zero (negsuc n) = n + 1

abbrev pub rises : List ℤ → ℕ
rises coefs = sum (map above_zero coefs)

abbrev pub falls : List ℤ → ℕ
falls coefs = sum (map below_zero coefs)

-- How far a sum of inputs times coefficients goes: each input is at its greatest where its coefficient is above 0 and at
-- its least where it is below, or the other way round.
abbrev pub reach_over : Format → List ℤ → Reach
reach_over input coefs = record {
  below = rises coefs * (reach_of input).below + falls coefs * (reach_of input).above;
  above = rises coefs * (reach_of input).above + falls coefs * (reach_of input).below;
}

-- how far the products of the numbers of two formats go
abbrev pub reach_of_product : (a b : Format) → Reach
reach_of_product a b = record {
  below = max ((reach_of a).below * (reach_of b).above) ((reach_of a).above * (reach_of b).below);
  above = max ((reach_of a).above * (reach_of b).above) ((reach_of a).below * (reach_of b).below);
}

-- In units of the output's last place, rounded away from 0: the floor of the least exact value and the ceiling of the
-- greatest.
abbrev pub in_units : ℕ → (s den : ℤ) → ℕ
in_units numerator s den = div_ceil (numerator * up s) (unsigned_abs den * down s)

abbrev pub in_places : Reach → (s den : ℤ) → Reach
in_places r s den = record { below = in_units r.below s den; above = in_units r.above s den }

-- the least width that holds numbers so far below and above 0, in two's complement where one is below
abbrev pub width_of : Reach → ℕ
width_of r = range_width (neg_ℤ (pos r.below)) (pos r.above)
