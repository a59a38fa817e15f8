use Rattle.std.proofs.Common.{rules, ◌≡◌, ◌∙◌, length, sym, ap, subst, arith}
use Rattle.opgen_graph.specs.SignedDigits.{IsDigitSet}
use Rattle.opgen_search.specs.Space.{AreTargets, limit}
use Rattle.opgen_search.proofs.Closing.{digit_count}
use Rattle.opgen_search.proofs.least.search_of.Goals as goal

pub returns-clause-search : goal.returns-clause-search
returns-clause-search c =
    let same : c.in_ok-targets.targets.items ≡ c.args.targets.now = search rules in
    record {
      targets = subst AreTargets (sym same) c.requires.targets;
      count = omega (arith, ap length same, c.requires.count, c.requires.extra);
      width = (c.requires.width.0, omega (arith, c.requires.width.1));
      limit_is = c.limit-limit.ensures ∙ ap limit (sym same);
      pieces = (omega (arith, c.requires.pieces.0), c.requires.pieces.1);
      digits = subst (λ ts. IsDigitSet ts c.in_ok-digits.digits.items) (sym same) c.in_ok-digits.ensures.set;
      digit_count = digit_count c.args.targets.now c.in_ok-digits.digits.items c.in_ok-digits.ensures.reaches;
      odds = c.in_ok-odds.ensures;
    }
