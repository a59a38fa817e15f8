use Rattle.std.proofs.Common.{ap, arith}
use Rattle.std.proofs.lemmas.List.{drop_all}
use Rattle.opgen_schedule.specs.Moves.{keeping}
use Rattle.opgen_schedule.proofs.lasts.keeping.Goals as goal

pub returns : goal.returns
returns c =
    let rest = ap (keeping c.args.costs.now c.args.lasts.now c.args.cycle)
    (drop_all c.reads.read-index c.args.reads.now c.reads-test.false) in
    omega (arith, c.reads.invariant.small, c.reads.invariant.rest, rest)
