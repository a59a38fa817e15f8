use Rattle.std.proofs.Common.{ℕ, ◌≡◌, ◌<◌, map}
use Rattle.std.specs.Prelude.{slice_index}
use Rattle.opgen_num.specs.Words.{nat}
use Rattle.opgen_lanes.proofs.tables.are_in_order.Given as goal

abbrev pub invariant-loop-place : goal.invariant-loop-place
invariant-loop-place l = (i : ℕ) → i < l.place → slice_index (map (λ r. nat r.0) l.rows) i ≡ i
