use Rattle.std.proofs.Common.{◌≡◌}
use Rattle.opgen_heap.specs.Adding.{with_row}
use Rattle.opgen_heap.proofs.heap.Heap.add_row.Given as goal

abbrev pub invariant-loop-index : goal.invariant-loop-index
invariant-loop-index l = l.self ≡ with_row l.initial.self l.node l.index l.weight
