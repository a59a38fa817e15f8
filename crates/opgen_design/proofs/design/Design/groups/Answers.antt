use Rattle.std.proofs.Common.{List, Result, Ok, Err, IfOk, Vec, sym, subst}
use Rattle.opgen_components.specs.declared.Component.{Component}
use Rattle.opgen_components.specs.Graph.{Graph, graph_of, AreComponents}
use Rattle.opgen_design.specs.declared.design.Design.{Design}
use Rattle.opgen_design.specs.Rules.{AreNeeds, AreGroups}
use Rattle.opgen_design.proofs.GroupLaws.{is-graph, are-groups}
use Rattle.opgen_design.proofs.design.Design.groups.Goals as goal

of-components : {Z E : Type 0} (d : Design) (g : Graph) (r : Result (Vec Component Z) E) → IfOk r (λ cs. AreComponents g cs.items)
    → ((cs : List Component) → AreComponents g cs → AreGroups d cs) → IfOk r (λ cs. AreGroups d cs.items)
of-components d g (Ok v) h f = f v.items h
of-components d g (Err e) h f = tt

pub components-requires : goal.components-requires
components-requires c =
    let needs = subst (λ x. AreNeeds c.args.self.now c.args.firsts.now (graph_of x)) (sym c.deref.ensures.value) c.in_ok-needs.ensures in
    is-graph c.args.self.now c.requires.declared c.requires.once c.args.firsts.now c.requires.firsts (graph_of c.deref.result.now) needs

pub returns : goal.returns
returns c =
    let needs = subst (λ x. AreNeeds c.args.self.now c.args.firsts.now (graph_of x)) (sym c.deref.ensures.value) c.in_ok-needs.ensures in
    of-components c.args.self.now (graph_of c.deref.result.now) c.components.result c.components.ensures
    (are-groups c.args.self.now c.requires.declared c.requires.once c.args.firsts.now c.requires.firsts (graph_of c.deref.result.now) needs)
