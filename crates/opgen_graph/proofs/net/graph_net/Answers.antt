use Rattle.std.proofs.Common.{◌≡◌, sym, subst, rules}
use Rattle.std.specs.Prelude.{All}
use Rattle.opgen_operator.specs.declared.operator.Operator.TheVariants.{Mcm}
use Rattle.opgen_operator.specs.Fits.{FitsInEachMode}
use Rattle.opgen_graph.specs.Placing.{AreAdders, IsNode, HasOddPart}
use Rattle.opgen_graph.specs.Recipe.{Multiples, net_of_graph}
use Rattle.opgen_graph.proofs.Fits.{multiples, are_adders, ready, odd_parts, fits_modes}
use Rattle.opgen_graph.proofs.Products.{ready_nodes}
use Rattle.opgen_graph.proofs.net.graph_net.Goals as goal

pub place_adders-requires-clause-adders : goal.place_adders-requires-clause-adders
place_adders-requires-clause-adders c =
    let m = c.args.several.now in
    let graph = c.args.graph.now in
    let adders : c.as_slice-adders.result.now ≡ graph.adders = search rules in
    subst (AreAdders m.input) (sym adders) (are_adders m c.requires.several graph c.requires.graph)

pub place_outputs-requires-clause-nodes : goal.place_outputs-requires-clause-nodes
place_outputs-requires-clause-nodes c =
    let m = c.args.several.now in
    let graph = c.args.graph.now in
    let b = multiples m c.requires.several graph c.requires.graph in
    let placed : Multiples = record { net = c.place_adders.new.net; known = c.as_slice.result.now } in
    let made : placed ≡ b = search rules in
    subst (λ (x : Multiples). All (IsNode x.net) x.known) (sym made)
    (ready_nodes m.input b (ready m c.requires.several graph c.requires.graph))

pub place_outputs-requires-clause-odd : goal.place_outputs-requires-clause-odd
place_outputs-requires-clause-odd c =
    let m = c.args.several.now in
    let graph = c.args.graph.now in
    let b = multiples m c.requires.several graph c.requires.graph in
    let placed : Multiples = record { net = c.place_adders.new.net; known = c.as_slice.result.now } in
    let made : placed ≡ b = search rules in
    subst (λ (x : Multiples). All (HasOddPart x.known) m.constants) (sym made)
    (odd_parts m c.requires.several graph c.requires.graph)

pub returns-clause-fits : goal.returns-clause-fits
returns-clause-fits c =
    let m = c.args.several.now in
    let graph = c.args.graph.now in
    let net : c.place_outputs.new.net ≡ net_of_graph graph m = search rules in
    subst (FitsInEachMode (Mcm m)) (sym net)
    (fits_modes m c.requires.several graph c.requires.graph)
