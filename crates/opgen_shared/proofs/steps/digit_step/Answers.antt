use Rattle.std.proofs.Common.{inl, refl, sym, subst, arith, ◌<◌, ◌-◌, Contains}
use Rattle.opgen_graph.specs.Graphs.{values}
use Rattle.opgen_graph.specs.Reach.{IsWide}
use Rattle.opgen_graph.proofs.Members.{here}
use Rattle.opgen_shared.specs.Digits.{digit_count}
use Rattle.opgen_shared.specs.Sums.{placed_by}
use Rattle.opgen_shared.proofs.LevelLaws.{own_digits}
use Rattle.opgen_shared.proofs.steps.digit_step.Goals as goal

pub ranked-requires-clause-adder : goal.ranked-requires-clause-adder
ranked-requires-clause-adder c =
    let d = c.digit_adder-adder.ensures in
    record { u = d.wide; v = subst IsWide (sym d.one) (omega arith, omega arith); form = d.form; shifted = d.shifted; makes = d.makes }

pub ranked-requires-clause-rest : goal.ranked-requires-clause-rest
ranked-requires-clause-rest c =
    inl (refl, subst (Contains (placed_by c.args.sums.now.adders)) (sym c.digit_adder-adder.ensures.one) (here 1 (values c.args.sums.now.adders)))

pub ranked-requires-clause-lighter : goal.ranked-requires-clause-lighter
ranked-requires-clause-lighter c =
    let d = c.digit_adder-adder.ensures in
    let n = c.args.number in
    let f = d.fewer (digit_count n) (own_digits n) in
    subst (λ x. c.weight-weight.result < digit_count x) (sym d.value)
    (omega (arith, f.0, c.weight-weight.ensures.most (digit_count n - 1) f.1))
