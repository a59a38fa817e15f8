use Rattle.std.proofs.Common.{sym, subst}
use Rattle.opgen_poly.specs.Near.{IsPartial}
use Rattle.opgen_poly.proofs.Runs.{last-partial}
use Rattle.opgen_poly.proofs.steps.polynomial_net.Goals as goal

pub summed-requires-clause-partial : goal.summed-requires-clause-partial
summed-requires-clause-partial c =
    let p = c.args.poly.now in
    subst (IsPartial p 1) (sym c.in_ok-partial.ensures.ok) (last-partial p c.requires)
