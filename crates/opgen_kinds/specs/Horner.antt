-- The numbers of a polynomial by Horner's rule in fixed point (de Dinechin and Kumm, Application-Specific Arithmetic): its
-- coefficients in units of the lowest guard bit, and the ranges of its partial values and results.
use Rattle.std.specs.Int.{int_min, int_max}
use Rattle.std.specs.Prelude.{ℕ, ◌+◌, ◌*◌, ◌^◌, ℤ, pos, unsigned_abs, length, ◌-◌, List, [], ◌∷◌, ◌+ℤ◌, ◌*ℤ◌, map, negsuc}
use Rattle.opgen_num.specs.Formats.{digit_count, range_width}
use Rattle.opgen_num.specs.Rounding.{nearest}
use Rattle.opgen_kinds.specs.declared.poly.Poly.{Poly as Polynomial}

-- the number of coefficients less one, also where the last of them are 0
abbrev pub degree : Polynomial → ℕ
degree p = length p.coefs - 1

-- the results have so many places after the point
abbrev pub result_places : Polynomial → ℕ
result_places p = unsigned_abs p.out_lsb

-- The guard bits: the least g with 2 ^ g above three times the degree.
abbrev pub poly_guard : Polynomial → ℕ
poly_guard p = digit_count (3 * degree p)

-- a coefficient in units of the lowest guard bit, to the nearest
abbrev pub guarded : Polynomial → ℤ → ℤ
guarded p c = nearest (c *ℤ pos (2 ^ (result_places p + poly_guard p))) p.den

-- The least and the greatest value of the coefficients from a place on, for inputs from 0 to 1: the first one, and as much as the
-- others can take from it or add to it.
abbrev pub low_end : List ℤ → ℤ
low_end [] = pos 0
low_end (a ∷ rest) = a +ℤ int_min (low_end rest) (pos 0)

abbrev pub high_end : List ℤ → ℤ
high_end [] = pos 0
high_end (a ∷ rest) = a +ℤ int_max (high_end rest) (pos 0)

-- The least width of two's complement numbers that holds both ends. Each holds -1.
abbrev pub signed_width : (low high : ℤ) → ℕ
signed_width low high = range_width (int_min low (negsuc 0)) high

-- the width of the partial value of some coefficients
abbrev pub partial_width : List ℤ → ℕ
partial_width cs = signed_width (low_end cs) (high_end cs)

abbrev pub all_guarded : Polynomial → List ℤ
all_guarded p = map (guarded p) p.coefs

-- the least and the greatest result: the guard bits are rounded away
abbrev pub result_low : Polynomial → ℤ
result_low p = nearest (low_end (all_guarded p)) (pos (2 ^ poly_guard p))

abbrev pub result_high : Polynomial → ℤ
result_high p = nearest (high_end (all_guarded p)) (pos (2 ^ poly_guard p))
