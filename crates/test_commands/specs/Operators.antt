-- Operators, their ports and one cycle of each, worked out by hand.
use Rattle.std.specs.Prelude.{◌≡◌, ◌∷◌, [], codes, true, false, pos, negsuc}
use Rattle.opgen_kinds.specs.declared.pair.Pair.{Pair}
use Rattle.opgen_kinds.specs.declared.poly.Poly.{Poly as Polynomial}
use Rattle.opgen_kinds.specs.declared.product.Product.{Product}
use Rattle.opgen_kinds.specs.declared.single.Single.{Single}
use Rattle.opgen_kinds.specs.declared.small_div.SmallDiv.{SmallDiv}
use Rattle.opgen_kinds.specs.declared.sum.Sum.{Sum}
use Rattle.opgen_kinds.specs.declared.taps.Taps.{Taps}
use Rattle.opgen_num.specs.declared.mode.Mode.TheVariants.{Faithful}
use Rattle.opgen_ports.specs.declared.recipes.Compressor.TheVariants.{Dadda}
use Rattle.opgen_ports.specs.declared.recipes.Recipe.TheVariants as recipes
use Rattle.opgen_ports.specs.declared.recipes.Recurrence.TheVariants.{Restoring}
use Rattle.opgen_ports.specs.Good.{IsGoodRatio}
use Rattle.opgen_kinds.specs.Horner.{poly_guard}
use Rattle.opgen_kinds.specs.Pair.{IsGoodQuotient, quotient_ports}
use Rattle.opgen_kinds.specs.Poly.{exact_poly, poly_format}
use Rattle.opgen_kinds.specs.Product.{exact_product, product_format}
use Rattle.opgen_kinds.specs.Several.{constant_format}
use Rattle.opgen_kinds.specs.Single.{IsGoodSquareRoot, root_ports}
use Rattle.opgen_kinds.specs.SmallDiv.{IsGoodSmallQuotient, small_ports}
use Rattle.opgen_kinds.specs.Sum.{exact_sum, guard_bits, sum_format}
use Rattle.opgen_kinds.specs.Taps.{exact_taps, taps_format}
use Rattle.opgen_ports.specs.Ports.{recent_numbers, one_input, port, unsigned}
use Rattle.opgen_num.specs.declared.format.Format.{Format}

-- eight bits with a sign, in steps of one
abbrev pub signed_bits : Format
signed_bits = record { signed = true; width = 8; lsb = pos 0 }

-- a third of four unsigned bits
abbrev pub third : Sum
third = record { input = unsigned 4 (pos 0); out_lsb = pos 0; coefs = pos 1 ∷ []; den = pos 3; mode = Faithful; compressor = Dadda; lut = 6 }

-- a quarter, a half and a quarter of three samples
abbrev pub smooth : Sum
smooth =
    record { input = signed_bits; out_lsb = pos 0; coefs = pos 1 ∷ pos 2 ∷ pos 1 ∷ []; den = pos 4; mode = Faithful; compressor = Dadda; lut = 6 }

-- two signed numbers of two bits
abbrev pub square : Product
square = record {
  a = record { signed = true; width = 2; lsb = pos 0 };
  b = record { signed = true; width = 2; lsb = pos 0 };
  out_lsb = pos 0;
  compressor = Dadda;
  mode = Faithful;
  recipe = recipes.Third;
}

abbrev pub quotient : Pair
quotient = record { a = unsigned 7 (pos 0); b = unsigned 3 (pos 0); out_lsb = pos 0; exact = true; recurrence = Restoring }

abbrev pub root : Single
root = record { input = unsigned 8 (pos 0); out_lsb = pos 0; exact = true }

-- a seventh of seven bits
abbrev pub seventh : SmallDiv
seventh = record { input = unsigned 7 (pos 0); divisor = 7; exact = true }

-- half of x and half of its square, for x of two bits below 1, in quarters
abbrev pub halves : Polynomial
halves = record { input = unsigned 2 (negsuc 1); out_lsb = negsuc 1; coefs = pos 0 ∷ pos 1 ∷ pos 1 ∷ []; den = pos 2; compressor = Dadda }

-- three whole taps
abbrev pub three_taps : Taps
three_taps = record {
  input = record { signed = true; width = 4; lsb = pos 0 };
  out_lsb = pos 0;
  taps = pos 1 ∷ pos 2 ∷ negsuc 2 ∷ [];
  searched = true;
  extra = 0;
  mode = Faithful;
  recipe = recipes.Third;
}

-- the same in steps of four
abbrev pub cut_taps : Taps
cut_taps = record three_taps { out_lsb = pos 2 }

-- a signed quotient of four bits by three
abbrev pub signed_quotient : Pair
signed_quotient = record {
  a = record { signed = true; width = 4; lsb = pos 0 };
  b = record { signed = true; width = 3; lsb = pos 0 };
  out_lsb = pos 0;
  exact = true;
  recurrence = Restoring;
}

pub record Operators : Type 0 where
  -- 15 / 3 is 5, so three bits; 4 / 3 lies within one of 1 and of 2, but not of 3
  pub third_format : sum_format third ≡ unsigned 3 (pos 0)
  pub third_guard : guard_bits third ≡ 1
  pub third_value : exact_sum third (λ ago. pos 4) ≡ record { num = pos 4; den = pos 3 }
  pub third_floor : IsGoodRatio Faithful (exact_sum third (λ ago. pos 4)) (pos 1)
  pub third_ceiling : IsGoodRatio Faithful (exact_sum third (λ ago. pos 4)) (pos 2)
  pub third_above : IsGoodRatio Faithful (exact_sum third (λ ago. pos 4)) (pos 3) → ⊥
  -- 10, 20 and -3, the last of them 253 as a word: 10 + 40 - 3 is 47; 10 alone has zeros before it
  pub smooth_value : exact_sum smooth (recent_numbers (one_input signed_bits) (10 ∷ 20 ∷ 253 ∷ []) 0) ≡ record { num = pos 47; den = pos 4 }
  pub smooth_start : exact_sum smooth (recent_numbers (one_input signed_bits) (10 ∷ []) 0) ≡ record { num = pos 10; den = pos 4 }
  pub smooth_format : sum_format smooth ≡ signed_bits
  -- -2 times -2 is 4, so four bits with the sign
  pub square_format : product_format square ≡ record { signed = true; width = 4; lsb = pos 0 }
  pub square_value : exact_product square (negsuc 1) (negsuc 1) ≡ record { num = pos 4; den = pos 1 }
  -- 100 is 14 times 7 and 2
  pub quotient_named : quotient_ports true quotient ≡ port (codes "q") (unsigned 7 (pos 0)) ∷ port (codes "r") (unsigned 3 (pos 0)) ∷ []
  pub quotient_good : IsGoodQuotient true quotient (pos 100) (pos 7) (pos 14) (pos 2)
  pub quotient_rest : IsGoodQuotient true quotient (pos 100) (pos 7) (pos 13) (pos 9) → ⊥
  -- -7 is -3 times 2 and -1, not -4 times 2 and 1; -8 by -1 is 8, so five bits
  pub signed_named : quotient_ports true signed_quotient ≡ port (codes "q") (record { signed = true; width = 5; lsb = pos 0 })
      ∷ port (codes "r") (record { signed = true; width = 3; lsb = pos 0 }) ∷ []
  pub signed_good : IsGoodQuotient true signed_quotient (negsuc 6) (pos 2) (negsuc 2) (negsuc 0)
  pub signed_floor : IsGoodQuotient true signed_quotient (negsuc 6) (pos 2) (negsuc 3) (pos 1) → ⊥
  -- 200 is the square of 14 and 4
  pub root_named : root_ports true root ≡ port (codes "y") (unsigned 4 (pos 0)) ∷ port (codes "r") (unsigned 5 (pos 0)) ∷ []
  pub root_good : IsGoodSquareRoot true root (pos 200) (pos 14) (pos 4)
  pub root_rest : IsGoodSquareRoot true root (pos 200) (pos 13) (pos 31) → ⊥
  -- 45 times 15 is 675
  pub multiple_format : constant_format (unsigned 4 (pos 0)) (pos 45) ≡ unsigned 10 (pos 0)
  -- 100 is 14 times 7 and 2
  pub seventh_named : small_ports true seventh ≡ port (codes "q") (unsigned 7 (pos 0)) ∷ port (codes "r") (unsigned 3 (pos 0)) ∷ []
  pub seventh_good : IsGoodSmallQuotient true seventh (pos 100) (pos 14) (pos 2)
  pub seventh_rest : IsGoodSmallQuotient true seventh (pos 100) (pos 13) (pos 9) → ⊥
  -- 3 / 4 gives 3 / 8 and 9 / 32, in quarters 21 / 8; there are three guard bits, and the results go from 0 to 4 quarters
  pub halves_guard : poly_guard halves ≡ 3
  pub halves_format : poly_format halves ≡ unsigned 3 (negsuc 1)
  pub halves_value : exact_poly halves (pos 3) ≡ record { num = pos 84; den = pos 32 }
  pub halves_good : IsGoodRatio Faithful (exact_poly halves (pos 3)) (pos 2)
  pub halves_above : IsGoodRatio Faithful (exact_poly halves (pos 3)) (pos 4) → ⊥
  -- 7, -1 and 1, the last of them first: 7 - 2 - 3 is 2; the sums go from -45 to 45
  pub taps_format_is : taps_format three_taps ≡ record { signed = true; width = 7; lsb = pos 0 }
  pub taps_value : exact_taps three_taps (recent_numbers (one_input three_taps.input) (1 ∷ 15 ∷ 7 ∷ []) 0) ≡ record { num = pos 2; den = pos 1 }
  -- 0, 7 and -1, the last of them first: 14 + 3 is 17, in steps of four 17 / 4; the sums go from -12 to 12
  pub cut_format : taps_format cut_taps ≡ record { signed = true; width = 5; lsb = pos 2 }
  pub cut_value : exact_taps cut_taps (recent_numbers (one_input cut_taps.input) (15 ∷ 7 ∷ 0 ∷ []) 0) ≡ record { num = pos 17; den = pos 4 }
  pub cut_good : IsGoodRatio Faithful (exact_taps cut_taps (recent_numbers (one_input cut_taps.input) (15 ∷ 7 ∷ 0 ∷ []) 0)) (pos 5)
  pub cut_below : IsGoodRatio Faithful (exact_taps cut_taps (recent_numbers (one_input cut_taps.input) (15 ∷ 7 ∷ 0 ∷ []) 0)) (pos 3) → ⊥
