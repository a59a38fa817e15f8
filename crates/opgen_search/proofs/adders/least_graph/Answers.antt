use Rattle.opgen_graph.proofs.Serving.{reached_serve}
use Rattle.opgen_search.proofs.adders.least_graph.Goals as goal

pub returns-clause-serves : goal.returns-clause-serves
returns-clause-serves g c =
    let parts = c.in_ok-parts.ensures.targets in
    let reaches = rw c.as_slice.ensures.value at c.in_ok-set.ensures.reaches in
    let ranks = rw (c.in-Some.is, c.as_slice-2.ensures.value) at c.in_ok-graph.ensures.ranks in
    reached_serve c.args.numbers.now c.in_ok-parts.parts.items c.in_ok-set.set.items c.in-Some.graph parts reaches ranks

pub returns-clause-least : goal.returns-clause-least
returns-clause-least g c =
    let parts = c.in_ok-parts.ensures.targets in
    let least = rw c.as_slice.ensures.value at c.in_ok-set.ensures.least in
    let ranks = rw (c.in-Some.is, c.as_slice-2.ensures.value) at c.in_ok-graph.ensures.ranks in
    record { adders = record { targets = c.in_ok-parts.parts.items; parts = parts; least = least }; ranks = ranks }
