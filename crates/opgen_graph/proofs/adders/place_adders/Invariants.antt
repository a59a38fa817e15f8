use Rattle.std.proofs.Common.{◌≡◌, drop, [], ◌∷◌}
use Rattle.opgen_net.specs.Valid.{IsValid}
use Rattle.opgen_graph.specs.Recipe.{input_multiple, with_adders}
use Rattle.opgen_graph.proofs.Standing.{AreLeft}
use Rattle.opgen_graph.proofs.adders.place_adders.Given as goal

abbrev pub invariant-adders : goal.invariant-adders
invariant-adders l = record {
  valid : IsValid l.net;
  left : AreLeft l.input (record { net = l.net; known = l.known }) (drop l.adder-index l.adders);
  same : with_adders l.input (record { net = l.net; known = l.known }) (drop l.adder-index l.adders)
      ≡ with_adders l.input (record { net = l.initial.net; known = input_multiple l.input ∷ [] }) l.adders;
}
