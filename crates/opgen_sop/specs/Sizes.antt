-- Numbers of the circuit of a sum of products: in units of how many guard bits it adds, what is lost below them, and what is added
-- to the bits (de Dinechin and Kumm, Application-Specific Arithmetic: bit heaps, and truncated multipliers).
use Rattle.std.specs.Prelude.{ℕ, ◌+◌, ◌/◌, ◌%◌, ◌^◌, ◌<◌, ◌≤◌, ◌==◌, Bool, not, min, max, nat_eq, if◌then◌else◌, List, [], ◌∷◌, ℤ, pos, ◌+ℤ◌, ◌*ℤ◌, unsigned_abs}
use Rattle.std.specs.Int.{int_div_euclid}
use Rattle.opgen_num.specs.declared.format.Ratio.{Ratio}
use Rattle.opgen_terms.specs.declared.sop.Sop.{Sop}
use Rattle.opgen_terms.specs.declared.sop.Scaled.{Scaled}
use Rattle.opgen_terms.specs.declared.sop.Times.{Times}
use Rattle.opgen_terms.specs.Sop.{format_of, scaled_term, times_term, offset_term}
use Rattle.opgen_ports.specs.Reaches.{places_up, places_down, up, down}
use Rattle.opgen_kcm.specs.Chunks.{chunk_count}
use Rattle.opgen_partial.specs.declared.pairs.Factor.{Factor}
use Rattle.opgen_partial.specs.declared.pairs.Placing.{Placing}
use Rattle.opgen_partial.specs.declared.pairs.Products.{Products}
use Rattle.opgen_partial.specs.Recipe.{correction}

-- a shift in units of the lowest guard bit
abbrev pub finer : (guard : ℕ) → ℤ → ℤ
finer guard shift = shift +ℤ pos guard

-- a number over a denominator, at a shift
abbrev pub fraction : (den shift number : ℤ) → Ratio
fraction den shift number = record { num = number *ℤ pos (up shift); den = den *ℤ pos (down shift) }

abbrev pub is_rounded : Ratio → Bool
is_rounded q = not (unsigned_abs q.num % unsigned_abs q.den == 0)

abbrev pub floor : Ratio → ℤ
floor q = int_div_euclid q.num q.den

-- what is lost of a fraction that is rounded down, in whole units
abbrev pub lost : Ratio → ℕ
lost q = if is_rounded q then 1 else 0

-- A constant times an input: its tables are rounded to the nearest unit where the constant is not whole, and exact otherwise.

abbrev pub scaled_fraction : Sop → (guard : ℕ) → Scaled → Ratio
scaled_fraction s guard t = fraction s.den (finer guard (scaled_term s t).shift) t.coefficient

abbrev pub tables_of : Sop → (guard : ℕ) → Scaled → ℕ
tables_of s guard t = if is_rounded (scaled_fraction s guard t) then chunk_count (format_of s t.input).width else 0

-- A product of two inputs: its columns below the units are left out.

abbrev pub factor : Sop → (input : ℕ) → Factor
factor s input = let f = format_of s input in record { node = input; width = f.width; signed = f.signed }

abbrev pub products : Sop → (guard : ℕ) → Times → Products
products s guard t = record {
  a = factor s t.a;
  b = factor s t.b;
  left_out = places_down (finer guard (times_term s t).shift);
}

abbrev pub placing : Sop → (guard : ℕ) → Times → Placing
placing s guard t = record {
  square = nat_eq t.a t.b;
  negative = t.negative;
  raised = places_up (finer guard (times_term s t).shift);
  lowered = places_down (finer guard (times_term s t).shift);
}

-- what makes good the turned bits, in units
abbrev pub turned_fraction : Sop → (guard : ℕ) → Times → Ratio
turned_fraction s guard t =
    let f = placing s guard t in
    record { num = correction (products s guard t) f *ℤ pos (2 ^ f.raised); den = pos (2 ^ f.lowered) }

-- Each row of bits that loses some loses less than one unit. A square has one bit alone and the others in one row, so that half as
-- many rows lose bits.
abbrev pub rows_cut : Products → (square : Bool) → ℕ
rows_cut p square = if square then min p.a.width ((p.left_out + 1) / 2) else min (min p.a.width p.b.width) p.left_out

abbrev pub floors_of : Sop → (guard : ℕ) → Times → ℕ
floors_of s guard t = rows_cut (products s guard t) (nat_eq t.a t.b) + lost (turned_fraction s guard t)

abbrev pub offset_fraction : Sop → (guard : ℕ) → Ratio
offset_fraction s guard = fraction s.den (finer guard (offset_term s).shift) s.offset

-- Of all terms together: tables that are rounded are half a unit off at most, and what is rounded down is less than a unit too low.

abbrev pub tables_in : Sop → (guard : ℕ) → List Scaled → ℕ
tables_in s guard [] = 0
tables_in s guard (t ∷ ts) = tables_of s guard t + tables_in s guard ts

abbrev pub floors_in : Sop → (guard : ℕ) → List Times → ℕ
floors_in s guard [] = 0
floors_in s guard (t ∷ ts) = floors_of s guard t + floors_in s guard ts

abbrev pub tables : Sop → (guard : ℕ) → ℕ
tables s guard = tables_in s guard s.scaled

abbrev pub floors : Sop → (guard : ℕ) → ℕ
floors s guard = floors_in s guard s.products + lost (offset_fraction s guard)

-- The least number of guard bits whose units, one for each rounded table and for all that is rounded down, are together less than
-- one unit of the output.
pub record IsGuard (s : Sop) (guard : ℕ) : Type 0 where
  pub enough : tables s guard + floors s guard < 2 ^ guard
  pub least : (g : ℕ) → tables s g + floors s g < 2 ^ g → guard ≤ g

-- What is added before the guard bits are dropped: half a unit of the output, or more where that does not make good what is lost.
abbrev pub rounding : Sop → (guard : ℕ) → ℕ
rounding s guard = max (2 ^ guard / 2) (floors s guard + (tables s guard + 1) / 2)
