use Rattle.std.proofs.Common.{◌≡◌, sym, subst, rules}
use Rattle.std.specs.Prelude.{All}
use Rattle.opgen_graph.specs.Parts.{parts_of}
use Rattle.opgen_graph.specs.Placing.{AreAdders, IsPart}
use Rattle.opgen_graph.specs.Recipe.{multiples_of}
use Rattle.opgen_tfir.proofs.Filters.{are_adders, all-parts}
use Rattle.opgen_tfir.proofs.filter.place_multiples.Goals as goal

pub place_adders-requires-clause-adders : goal.place_adders-requires-clause-adders
place_adders-requires-clause-adders c =
    let f = c.args.taps.now in
    let graph = c.args.graph.now in
    let adders : c.as_slice.result.now ≡ graph.adders = search rules in
    subst (AreAdders f.input) (sym adders) (are_adders f c.requires.taps graph c.requires.graph)

pub place_parts-requires-clause-parts : goal.place_parts-requires-clause-parts
place_parts-requires-clause-parts c =
    let f = c.args.taps.now in
    let graph = c.args.graph.now in
    let known : c.as_slice-3.result.now ≡ (multiples_of f.input graph).known = search rules in
    let parts : c.as_slice-4.result.now ≡ parts_of f.taps = search rules in
    subst (λ ms. All (IsPart ms) c.as_slice-4.result.now) (sym known)
    (subst (All (IsPart (multiples_of f.input graph).known)) (sym parts) (all-parts f c.requires.taps graph c.requires.graph))
