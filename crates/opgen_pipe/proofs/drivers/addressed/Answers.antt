use Rattle.std.proofs.Common.{sym, ◌∙◌, arith}
use Rattle.opgen_pipe.proofs.Steps.{addressed_end}
use Rattle.opgen_pipe.proofs.drivers.addressed.Goals as goal

pub returns : goal.returns
returns c = sym (addressed_end c.args.width c.rows.pairs c.args.rows.now c.rows.address (omega (arith, c.rows-test.false)))
    ∙ c.rows.invariant
