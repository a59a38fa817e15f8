use Rattle.std.proofs.Common.{◌≢◌}
use Rattle.opgen_components.specs.declared.walk.Mark.TheVariants.{New}
use Rattle.opgen_components.specs.Graph.{graph_of}
use Rattle.opgen_components.specs.Walk.{IsWalk, KeepsMet, mark_of, work}
use Rattle.opgen_components.proofs.walk.Walk.visit.Given as goal

abbrev pub invariant-steps : goal.invariant-steps
invariant-steps l = record {
  walk : IsWalk (graph_of l.graph) l.self;
  kept : KeepsMet l.fn.self l.self;
  met : mark_of l.self.marks.items l.root ≢ New;
}

abbrev pub decreases-steps : goal.decreases-steps
decreases-steps l = work (graph_of l.graph) l.self
