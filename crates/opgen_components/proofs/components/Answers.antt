use Rattle.std.proofs.Common.{◌≡◌, List, length, map, Result, Ok, Err, Vec, IfOk, sym, ap, subst, arith}
use Rattle.opgen_components.specs.declared.Component.{Component}
use Rattle.opgen_components.specs.Graph.{graph_of, Graph, AreComponents}
use Rattle.opgen_components.specs.Walk.{component_at}
use Rattle.opgen_components.proofs.Ends.{are-components}
use Rattle.opgen_components.proofs.Steps.{length-graph}
use Rattle.opgen_components.proofs.components.Goals as goal

found-all : {E Z : Type 0} (r : Result (Vec Component Z) E) (g : Graph) (cs : List Component) → IfOk r (λ v. v.items ≡ cs)
    → AreComponents g cs → IfOk r (λ v. AreComponents g v.items)
found-all (Ok v) g cs h a = subst (AreComponents g) (sym h) a
found-all (Err e) g cs h a = tt

pub returns : goal.returns
returns c =
    let g = graph_of c.args.graph.now in
    let w = c.loop-root.walk in
    found-all c.components.result g (map component_at w.marks.items) c.components.ensures
    (are-components g w.marks.items w.next.items w.path.items w.bounds.items w.open_places.items
    (length w.done.items) c.loop-root.invariant.walk c.requires (ap length c.loop-root.invariant.path)
    (λ s l. c.loop-root.invariant.met s (omega (arith, l, c.loop-root-test.false, length-graph c.args.graph.now))))
