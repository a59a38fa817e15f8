-- Terms whose numbers have room in 128 bits, and whose tables are no wider than the heap: those of accepted sums.
use Rattle.std.specs.Prelude.{ℕ, ◌+◌, ◌-◌, ◌*◌, ◌^◌, ◌≤◌, ℤ, neg_ℤ, ◌≤ℤ◌, unsigned_abs, length, All, nat_eq, false, ◌≡◌}
use Rattle.opgen_ports.specs.declared.TheConstants.{MAX_SHIFT}
use Rattle.opgen_num.specs.declared.format.TheConstants.{MAX_WIDTH}
use Rattle.opgen_ports.specs.Reaches.{places_down}
use Rattle.opgen_terms.specs.declared.sop.Sop.{Sop}
use Rattle.opgen_terms.specs.declared.sop.Scaled.{Scaled}
use Rattle.opgen_terms.specs.declared.sop.Times.{Times}
use Rattle.opgen_terms.specs.Sop.{Term, IsScaled, IsTimes, format_of, depth, height, sop_format, scaled_term, times_term, offset_term}

-- in how many units a unit of the output's last place is divided at the deepest place, over the denominator
abbrev pub units : Sop → ℕ
units s = unsigned_abs s.den * 2 ^ depth s

abbrev pub IsSmallShift : ℤ → Type 0
IsSmallShift shift = (neg_ℤ MAX_SHIFT ≤ℤ shift) × (shift ≤ℤ MAX_SHIFT)

pub record IsSmall (s : Sop) (t : Term) : Type 0 where
  pub shift : IsSmallShift t.shift
  pub deep : places_down t.shift ≤ depth s
  pub size : t.size * 2 ^ height s t ≤ 2 ^ 111

pub record IsSmallScaled (s : Sop) (t : Scaled) : Type 0 where
  pub ranged : IsScaled (length s.inputs) t
  pub small : IsSmall s (scaled_term s t)
  pub narrow : unsigned_abs t.coefficient * (2 ^ (format_of s t.input).width - 1) * 2 ^ height s (scaled_term s t)
      ≤ units s * (2 ^ (sop_format s).width - 1)

pub record IsSmallTimes (s : Sop) (t : Times) : Type 0 where
  pub ranged : IsTimes (length s.inputs) t
  pub small : IsSmall s (times_term s t)

-- the guard bits, and the heap with them
pub record IsSmallGuard (s : Sop) (guard : ℕ) : Type 0 where
  pub few : guard ≤ 11
  pub some : 1 ≤ (sop_format s).width
  pub narrow : (sop_format s).width + guard ≤ MAX_WIDTH

-- all terms of a sum
pub record HasSmallTerms (s : Sop) : Type 0 where
  pub scaled : All (IsSmallScaled s) s.scaled
  pub products : All (IsSmallTimes s) s.products
  pub offset : nat_eq (unsigned_abs s.offset) 0 ≡ false → places_down (offset_term s).shift ≤ depth s
