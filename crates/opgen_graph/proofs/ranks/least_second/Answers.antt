use Rattle.std.proofs.Common.{◌≤◌, ◌<◌, ⊎_elim, below_more, arith}
use Rattle.std.proofs.lemmas.Bool.{cases_lt}
use Rattle.opgen_graph.proofs.ranks.least_second.Goals as goal

pub returns-in-Some-clause-least : goal.returns-in-Some-clause-least
returns-in-Some-clause-least c = λ i h makes. ⊎_elim (λ (lt : i < c.loop-v.v-index). absurd (c.loop-v.invariant i lt makes))
    (λ (le : c.loop-v.v-index ≤ i). c.requires.increasing c.loop-v.v-index i 0 le h) (cases_lt i c.loop-v.v-index)

pub loop-v-preserved : goal.loop-v-preserved
loop-v-preserved c = below_more _ _ c.loop-v.invariant c.in_default.ensures.none

pub returns-clause-none : goal.returns-clause-none
returns-clause-none c = λ i h. c.loop-v.invariant i (omega arith)
