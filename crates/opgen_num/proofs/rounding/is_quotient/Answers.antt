use Rattle.std.proofs.Common.{arith}
use borrow.Author.Tests.{eqb-true, eq-eqb}
use Rattle.opgen_num.proofs.Remainders.{quotient_only, quotient_if}
use Rattle.opgen_num.proofs.rounding.is_quotient.Goals as goal

pub returns-then-q-n : goal.returns-then-q-n
returns-then-q-n c =
    let n = c.args.n in
    let b = c.args.b in
    let q = c.args.q in
    let r = c.args.r in (
      (λ t. quotient_if n b q r (omega arith) (omega (arith, eqb-true, eq-eqb)) (omega (arith, eqb-true, eq-eqb))),
      (λ t. omega (arith, eqb-true, eq-eqb, quotient_only n b q r t)),
    )

pub returns-else-q-n : goal.returns-else-q-n
returns-else-q-n c =
    let n = c.args.n in
    let b = c.args.b in
    let q = c.args.q in
    let r = c.args.r in
    (λ t. absurd (omega (arith, eqb-true, eq-eqb)), λ t. absurd (omega (arith, eqb-true, eq-eqb, quotient_only n b q r t)))
