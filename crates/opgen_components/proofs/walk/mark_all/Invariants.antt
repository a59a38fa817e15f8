use Rattle.std.proofs.Common.{◌≡◌, length, drop}
use Rattle.opgen_components.specs.Walk.{marked}
use Rattle.opgen_components.proofs.walk.mark_all.Given as goal

abbrev pub invariant-loop-node : goal.invariant-loop-node
invariant-loop-node l =
    (marked l.marks.items (drop l.node-index l.nodes) l.mark ≡ marked l.initial.marks.items l.nodes l.mark)
    × (length l.marks.items ≡ length l.initial.marks.items)
