use Rattle.std.proofs.Common.{◌≡◌, drop}
use Rattle.std.specs.Prelude.{All}
use Rattle.opgen_net.specs.Valid.{IsValid}
use Rattle.opgen_graph.specs.Placing.{IsNode}
use Rattle.opgen_graph.specs.Recipe.{with_outputs}
use Rattle.opgen_graph.proofs.constants.place_outputs.Given as goal

abbrev pub invariant-outputs : goal.invariant-outputs
invariant-outputs l = record {
  valid : IsValid l.net;
  nodes : All (IsNode l.net) l.known;
  same : with_outputs l.several.input l.place (record { net = l.net; known = l.known }) (drop l.place l.several.constants)
      ≡ with_outputs l.several.input 0 (record { net = l.initial.net; known = l.known }) l.several.constants;
}
