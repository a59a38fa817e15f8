use Rattle.std.proofs.Common.{◌≡◌, ◌-◌, ◌≤◌, [], ◌++◌, length, take}
use Rattle.std.specs.Prelude.{replicate}
use Rattle.opgen_heap.proofs.heap.lengthen.Given as goal

abbrev pub invariant-loop-columns : goal.invariant-loop-columns
invariant-loop-columns l =
    (length l.initial.columns.items ≤ length l.columns.items)
    × (take (length l.initial.columns.items) l.columns.items ≡ l.initial.columns.items)
    × (l.columns.items ++ replicate (l.count - length l.columns.items) []
    ≡ l.initial.columns.items ++ replicate (l.count - length l.initial.columns.items) [])

abbrev pub decreases-loop-columns : goal.decreases-loop-columns
decreases-loop-columns l = l.count - length l.columns.items
