use Rattle.std.proofs.Common.{arith}
use borrow.Author.Tests.{eqb-true, eq-eqb}
use Rattle.opgen_num.proofs.Remainders.{root_only, root_if, root_rest}
use Rattle.opgen_num.proofs.rounding.is_root.Goals as goal

pub returns-then-y-root : goal.returns-then-y-root
returns-then-y-root c =
    let n = c.args.n in
    let y = c.args.y in
    let r = c.args.r in
    let root = c.isqrt-root.ensures in (
      (λ t. root_if n c.isqrt-root.result y r root.square_le root.next_square_gt (omega (arith, eqb-true, eq-eqb))
          (omega (arith, eqb-true, eq-eqb))),
      (λ t. omega (arith, eqb-true, eq-eqb, root_rest n c.isqrt-root.result y r (omega (arith, eqb-true, eq-eqb)) t)),
    )

pub returns-else-y-root : goal.returns-else-y-root
returns-else-y-root c =
    let root = c.isqrt-root.ensures in (
      λ t. absurd (omega (arith, eqb-true, eq-eqb)),
      λ t. absurd (omega (
        arith,
        eqb-true,
        eq-eqb,
        root_only c.args.n c.isqrt-root.result c.args.y c.args.r root.square_le root.next_square_gt t,
      )),
    )
