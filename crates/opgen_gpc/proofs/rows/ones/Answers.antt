use Rattle.std.proofs.Common.{◌≡◌, ◌+◌, ◌-◌, suc, ap, arith}
use Rattle.opgen_num.specs.Words.{word}
use Rattle.opgen_num.specs.WordLaws.{digit-low}
use Rattle.opgen_gpc.specs.Recipe.{ones_of}
use Rattle.opgen_gpc.proofs.rows.ones.Goals as goal

pub bits-preserved : goal.bits-preserved
bits-preserved c =
    let left = c.bits.left in
    let place = c.bits._bit in
    let rest : 6 - place ≡ suc (6 - (place + 1)) = omega (arith, c.bits-test.true) in
    let one = ap (λ k. ones_of (word k left)) rest in (
      omega (arith, c.bits.invariant.0, one, digit-low left),
      omega (arith, c.bits.invariant.1),
    )
