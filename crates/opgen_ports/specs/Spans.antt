-- The range of exact values over all inputs: output formats hold it, and no narrower ones do.
use Rattle.std.specs.Prelude.{◌≤ℤ◌, ℤ, pos, neg_ℤ, ◌<ℤ◌, ◌+ℤ◌, ◌*ℤ◌, ◌-ℤ◌}
use Rattle.opgen_num.specs.declared.format.Format.{Format}
use Rattle.opgen_num.specs.declared.format.Ratio.{Ratio}
use Rattle.opgen_num.specs.Formats.{Holds}
use Rattle.opgen_ports.specs.declared.reach.Reach.{Reach}

-- a number that a word of the format stands for
abbrev pub IsOf : Format → ℤ → Type 0
IsOf f n = Holds f.signed f.width n

-- From the floor of the least fraction to the ceiling of the greatest, over all inputs: no fraction is below the one or
-- above the other, some fraction is less than one above the floor, and some less than one below the ceiling.
pub record Spans (Input : Type 0) (In : Input → Type 0) (value : Input → Ratio) (reach : Reach) : Type 0 where
  pub low : (x : Input) → In x → ((value x).den *ℤ neg_ℤ (pos reach.below)) ≤ℤ (value x).num
  pub high : (x : Input) → In x → (value x).num ≤ℤ ((value x).den *ℤ pos reach.above)
  pub least : (x : Input) × In x × ((value x).num <ℤ ((value x).den *ℤ (neg_ℤ (pos reach.below) +ℤ pos 1)))
  pub greatest : (x : Input) × In x × (((value x).den *ℤ (pos reach.above -ℤ pos 1)) <ℤ (value x).num)
