use Rattle.std.proofs.Common.{◌≡◌, drop, []}
use Rattle.std.specs.Prelude.{All}
use Rattle.opgen_net.specs.Valid.{IsValid}
use Rattle.opgen_graph.specs.Parts.{with_parts}
use Rattle.opgen_graph.specs.Placing.{IsNode}
use Rattle.opgen_graph.proofs.part_nodes.place_parts.Given as goal

abbrev pub invariant-parts : goal.invariant-parts
invariant-parts l = record {
  valid : IsValid l.net;
  nodes : All (IsNode l.net) l.known;
  same : with_parts l.input l.known (record { net = l.net; known = l.made }) (drop l.part-index l.parts)
      ≡ with_parts l.input l.known (record { net = l.initial.net; known = [] }) l.parts;
}
