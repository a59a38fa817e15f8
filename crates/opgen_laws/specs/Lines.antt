-- The statuses that have one line each.
use Rattle.std.specs.Prelude.{◌≡◌}
use Rattle.opgen_top.specs.declared.line.Line.{Line}
use Rattle.opgen_top.specs.declared.line.Line.TheVariants as line
use Rattle.opgen_top.specs.Lines.{line_status}

-- the statuses 2, 3 and 9 have one line each
pub record HasFixedLine (l : Line) : Type 0 where
  pub usage : line_status l ≡ 2 → l ≡ line.Usage
  pub read_fault : line_status l ≡ 3 → l ≡ line.ReadFault
  pub too_long : line_status l ≡ 9 → l ≡ line.TooLong

abbrev pub LinesAreFixed : Type 0
LinesAreFixed = (l : Line) → HasFixedLine l
