use Rattle.std.proofs.Common.{◌∙◌, refl, ap}
use Rattle.std.proofs.lemmas.List.{take_all}
use Rattle.opgen_graph.specs.Graphs.{values}
use Rattle.opgen_top.proofs.AdderValues.{value_more}
use Rattle.opgen_top.proofs.adder_graph.values.Goals as goal

pub adders-preserved : goal.adders-preserved
adders-preserved c =
    c.in_ok-push.ensures.items
    ∙ value_more c.args.adders.now c.adders.adder-index _ c.adders.found.items _ c.adders-test.true c.adders.invariant refl

pub returns : goal.returns
returns c = c.adders.invariant ∙ ap values (take_all c.adders.adder-index c.args.adders.now c.adders-test.false)
