use Rattle.std.proofs.Common.{sym, subst, arith}
use Rattle.opgen_timing.specs.Widths.{IsSumWidth}
use Rattle.opgen_timing.proofs.Widest.{last-before, last-of_all, one-width, stopped}
use Rattle.opgen_timing.proofs.widths.sum_width.Goals as goal

pub returns-then-not-fits-clause-greatest : goal.returns-then-not-fits-clause-greatest
returns-then-not-fits-clause-greatest g c =
    let table = (goal.Target-dyn g (c.args.target.now.vtable, c.args.target.now.value)).delays c.args.target.now.value in
    let most = c.widths.most in
    subst (IsSumWidth table c.args.period) (sym c.max.ensures)
    (last-before table c.args.period most (omega (arith, c.widths-test.true, c.widths.auto.most-end)) c.widths.invariant
    (stopped c.fits.result _ c.fits.ensures c.if-not-fits.true))

pub returns-then-not-fits-clause-width : goal.returns-then-not-fits-clause-width
returns-then-not-fits-clause-width g c =
    let table = (goal.Target-dyn g (c.args.target.now.vtable, c.args.target.now.value)).delays c.args.target.now.value in
    one-width table c.args.period c.max.result (returns-then-not-fits-clause-greatest g c)

pub returns-clause-greatest : goal.returns-clause-greatest
returns-clause-greatest g c =
    let table = (goal.Target-dyn g (c.args.target.now.vtable, c.args.target.now.value)).delays c.args.target.now.value in
    last-of_all table c.args.period c.widths.most (omega (arith, c.widths-test.false, c.widths.auto.most-end)) c.widths.invariant

pub returns-clause-width : goal.returns-clause-width
returns-clause-width g c =
    let table = (goal.Target-dyn g (c.args.target.now.vtable, c.args.target.now.value)).delays c.args.target.now.value in
    one-width table c.args.period 96 (returns-clause-greatest g c)
