use Rattle.std.proofs.Common.{below_more}
use Rattle.std.proofs.lemmas.List.Elements.{Contains-get_or}
use Rattle.opgen_graph.proofs.Pairs.{no_pair, least_pair}
use Rattle.opgen_graph.proofs.ranks.first_adder.Goals as goal

pub returns-in-Some-clause-first : goal.returns-in-Some-clause-first
returns-in-Some-clause-first c =
    let m = c.in-Some.ensures.made in (
      m.0,
      record {
        u_placed = rw m.1 (Contains-get_or _ _ 0 c.loop-u-test.true);
        v_placed = m.2;
        step = rw (m.0, m.1) m.3;
        least = rw (m.0, m.1) (least_pair _ _ c.loop-u.u-index _ c.requires.increasing c.loop-u.invariant c.in-Some.ensures.least);
      },
    )

pub loop-u-preserved : goal.loop-u-preserved
loop-u-preserved c = λ k j lt in_range. below_more _ _ (λ i h. c.loop-u.invariant i j h in_range)
    (c.in_default.ensures.none j in_range) k lt

pub returns-clause-none : goal.returns-clause-none
returns-clause-none c = no_pair _ _ _ c.loop-u-test.false c.loop-u.invariant
