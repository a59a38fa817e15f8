use Rattle.std.proofs.Common.{◌≡◌, map, take}
use Rattle.opgen_components.specs.Walk.{component_at}
use Rattle.opgen_components.proofs.walk.Walk.components.Given as goal

abbrev pub invariant-loop-mark : goal.invariant-loop-mark
invariant-loop-mark l = l.found.items ≡ map component_at (take l.mark-index l.self.marks.items)
