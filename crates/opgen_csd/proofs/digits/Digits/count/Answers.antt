use Rattle.std.proofs.Common.{arith, rules, FitsSigned, get_or, pos, take}
use mir.Syntax.{w8}
use Rattle.opgen_csd.proofs.Sums.{few_below, nonzeros_more, counted, not_counted}
use Rattle.opgen_csd.proofs.digits.Digits.count.Goals as goal
use Rattle.opgen_csd.proofs.digits.Digits.count.Goals.{then-digit-ne0, else-digit-ne0}

pub overflow_add-count : goal.overflow_add-count
overflow_add-count c = omega (arith, few_below _ c.loop-digit.digit-index c.self.invariant.canonical, c.loop-digit.invariant, c.self.told)

pub loop-digit-preserved : goal.loop-digit-preserved
loop-digit-preserved c =
    let more = nonzeros_more (take c.self.inside.len c.self.inside.digits) c.loop-digit.digit-index c.loop-digit-test.true in
    elim c.if-digit-ne0.branch [
      | then-digit-ne0 w ↦ omega (
        arith,
        more,
        counted (get_or (take c.self.inside.len c.self.inside.digits) c.loop-digit.digit-index
            (pos 0)) w.if-digit-ne0.true,
        w.count-is,
        c.loop-digit.invariant,
      )
      | else-digit-ne0 w ↦
          let f : FitsSigned w8 (get_or (take c.self.inside.len c.self.inside.digits) c.loop-digit.digit-index (pos 0)) = search rules in
          omega (
            arith,
            more,
            not_counted (get_or (take c.self.inside.len c.self.inside.digits) c.loop-digit.digit-index (pos 0)) f
                w.if-digit-ne0.false,
            w.count-is,
            c.loop-digit.invariant,
          )
    ]
