use Rattle.std.proofs.Common.{◌≡◌, ◌≤◌, ◌-◌, ◌+◌, ◌^◌}
use Rattle.opgen_budget.specs.Columns.{weight_below}
use Rattle.opgen_budget.proofs.columns.drop_columns.Given as goal

-- each column so far has a bit, so the next one weighs no more than the columns so far and 1
abbrev pub invariant-columns : goal.invariant-columns
invariant-columns l = (l.weight ≡ weight_below l.m l.n l.columns) × (l.weight ≤ 2 ^ (l.p - 1)) × (l.columns ≤ l.m + l.n - 1)
    × (2 ^ l.columns ≤ l.weight + 1)

abbrev pub decreases-columns : goal.decreases-columns
decreases-columns l = l.m + l.n - l.columns
