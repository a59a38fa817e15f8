use Rattle.std.proofs.Common.{◌≡◌, ◌+◌, ◌-◌, max, ◌∷◌, [], ℕ, List, ap, ◌∙◌, arith}
use Rattle.opgen_graph.specs.SetCost.{bit_length}
use Rattle.opgen_shared.specs.Levels.{level}
use Rattle.opgen_shared.specs.Rule.{higher}
use Rattle.opgen_shared.proofs.Comparing.{weighs_of}
use Rattle.opgen_shared.proofs.Ranking.{ranked}
use Rattle.opgen_shared.proofs.candidates.rank.Goals as goal

pub expected_level-requires : goal.expected_level-requires
expected_level-requires c =
    omega (arith, c.requires.weight, (weighs_of c.args.sums.now.adders c.args.sums.now.levels.items c.args.adder.u c.requires.sums c.requires.u).some)

pub returns : goal.returns
returns c =
    let a = c.args.adder in
    let done = c.args.sums.now.adders in
    let known = c.from.ensures ∙ c.operand_level.ensures in
    let expected = c.expected_level.ensures ∙ ap (λ w. 1 + bit_length (w - 1)) c.requires.weight in
    let high : c.max-level.result ≡ higher done a =
    c.max-level.ensures ∙ ap (λ x. max x c.expected_level.result) known ∙ ap (λ y. max (max (level done a.u) (level done a.v)) y) expected in
    let tail : List ℕ = c.args.weight ∷ c.max-level.result ∷ a.u ∷ a.v ∷ a.step.shift ∷ c.form_place.result ∷ [] in
    let slow : c.saturating_sub.result ≡ c.max-level.result - 2 = omega (arith, c.saturating_sub.ensures) in
    ap (λ x. x ∷ tail) slow ∙ ranked done a c.args.weight c.max-level.result c.form_place.result c.requires.weight high c.form_place.ensures
