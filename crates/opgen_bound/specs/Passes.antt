-- What a pass knows of the shared bound, and which bound a pass belongs to.
use Rattle.std.specs.Prelude.{◌≡◌}
use Rattle.opgen_bound.specs.declared.view.View.{View}
use Rattle.opgen_bound.specs.declared.bound.Pass.{Pass}
use Rattle.opgen_bound.specs.declared.bound.Bound.{Bound}

-- what the pass knows
abbrev pub view : Pass → View
view pass = pass.seat.me.0

-- it is a pass of this bound
abbrev pub IsPassOf : Bound → Pass → Type 0
IsPassOf bound pass = pass.seat.table_id ≡ bound.table.shared.table_id
