use Rattle.std.proofs.Common.{◌<◌, subst, ◌∙◌}
use Rattle.opgen_shared.specs.Digits.{digit_count}
use Rattle.opgen_shared.proofs.Comparing.{heavier_rest, step_of}
use Rattle.opgen_shared.proofs.candidates.ranked.Goals as goal

pub rank-rank-requires-clause-weight : goal.rank-rank-requires-clause-weight
rank-rank-requires-clause-weight c =
    c.requires.weight ∙ heavier_rest c.args.sums.now.adders c.args.sums.now.levels.items c.args.adder c.args.rest c.requires.sums
    c.requires.adder c.requires.rest

pub returns-clause-candidate : goal.returns-clause-candidate
returns-clause-candidate c = record {
  step = step_of c.args.sums.now.adders c.args.sums.now.levels.items c.args.adder c.args.rest c.requires.sums c.requires.adder
      c.requires.rest (subst (λ w. w < digit_count c.args.adder.value) c.requires.weight c.requires.lighter);
  rest = c.requires.rest;
  weight = c.requires.weight;
  ranked = c.rank-rank.ensures;
}
