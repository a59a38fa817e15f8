use Rattle.std.proofs.Common.{◌≡◌, ◌≢◌, ℕ, ◌<◌, []}
use Rattle.opgen_components.specs.declared.walk.Mark.TheVariants.{New}
use Rattle.opgen_components.specs.Graph.{graph_of}
use Rattle.opgen_components.specs.Walk.{IsWalk, mark_of}
use Rattle.opgen_components.proofs.components.Given as goal

abbrev pub invariant-loop-root : goal.invariant-loop-root
invariant-loop-root l = record {
  walk : IsWalk (graph_of l.graph) l.walk;
  path : l.walk.path.items ≡ [];
  met : (s : ℕ) → s < l.root → mark_of l.walk.marks.items s ≢ New;
}
