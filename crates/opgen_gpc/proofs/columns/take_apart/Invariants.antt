use Rattle.std.proofs.Common.{◌≡◌, ◌++◌, drop}
use Rattle.std.specs.Prelude.{false}
use Rattle.opgen_gpc.specs.Counters.{apart}
use Rattle.opgen_gpc.specs.Recipe.{with_columns}
use Rattle.opgen_gpc.proofs.columns.take_apart.Given as goal

-- the counters so far, and those of the columns to come
abbrev pub invariant-columns : goal.invariant-columns
invariant-columns l =
    let rest = apart l.place l.taken (drop l.place l.columns) in
    (l.counters ++ rest.counters ≡ (apart 0 false l.columns).counters)
    × (with_columns l.kept l.place rest.left ≡ with_columns l.initial.kept 0 (apart 0 false l.columns).left)
