use Rattle.std.proofs.Common.{◌≡◌, ◌++◌, length}
use Rattle.opgen_gpc.specs.Counters.{sixes, after_sixes}
use Rattle.opgen_gpc.proofs.columns.take_sixes.Given as goal

-- the counters so far, and those of the bits that are left
abbrev pub invariant-sixes : goal.invariant-sixes
invariant-sixes l =
    (l.counters ++ sixes l.column l.left ≡ l.initial.counters ++ sixes l.column l.initial.left)
    × (after_sixes l.left ≡ after_sixes l.initial.left)

abbrev pub decreases-sixes : goal.decreases-sixes
decreases-sixes l = length l.left
