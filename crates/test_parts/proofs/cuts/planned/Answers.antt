use Rattle.std.proofs.Common.{ap}
use Rattle.std.specs.Prelude.{map}
use Rattle.test_parts.proofs.Names.{named_one}
use Rattle.test_parts.proofs.cuts.planned.Goals as goal

pub cut_and_plan-requires-clause-named : goal.cut_and_plan-requires-clause-named
cut_and_plan-requires-clause-named c =
    named_one c.in_ok-net.net (ap (map (λ i. i.0)) c.in_ok-net.ensures.inputs) (ap (map (λ o. o.name)) c.in_ok-net.ensures.outputs)
