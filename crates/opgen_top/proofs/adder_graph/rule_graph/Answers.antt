use Rattle.std.proofs.Common.{◌↔◌, ℕ, List, Contains, subst}
use Rattle.opgen_graph.specs.declared.ranks.Adder.{Adder}
use Rattle.opgen_graph.specs.Graphs.{values}
use Rattle.opgen_top.proofs.adder_graph.rule_graph.Goals as goal

pub returns-clause-graph : goal.returns-clause-graph
returns-clause-graph c = record {
  rule = c.in_ok-graph.ensures.rule;
  increasing = c.in_ok-set.ensures.increasing;
  members = subst (λ (adders : List Adder). (x : ℕ) → Contains c.in_ok-set.set.items x ↔ Contains (values adders) x) c.as_slice.ensures
      c.in_ok-set.ensures.members;
}
