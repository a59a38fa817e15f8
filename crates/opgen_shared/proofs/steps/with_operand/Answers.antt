use Rattle.std.proofs.Common.{◌≡◌, ◌+◌, ◌*◌, ◌^◌, arith, add-one, ap, ◌∙◌}
use Rattle.opgen_graph.proofs.Powers.{twice}
use Rattle.opgen_shared.specs.declared.steps.Shifted.{Shifted}
use Rattle.opgen_shared.specs.Steps.{IsDistanceTo, IsShiftedDistance}
use Rattle.opgen_shared.proofs.Covering.{IsBelow, by_second, one_shift_more, all_shifts}
use Rattle.opgen_shared.proofs.Ranking.{not_after_both, still_least}
use Rattle.opgen_shared.proofs.steps.with_operand.Goals as goal

pub shifts-init : goal.shifts-init
shifts-init c =
    let done = c.args.sums.now.adders in
    let far = still_least done c.args.number (IsDistanceTo c.args.operand) c.with_sum-least.result c.with_distance-by_distance.result
    c.with_sum-least.ensures.kept c.with_distance-by_distance.ensures.least in
    record {
      candidate = c.with_sum-least.ensures.candidate;
      kept = not_after_both done c.with_sum-least.result.adder c.with_distance-by_distance.result.adder c.args.best.adder
          c.with_sum-least.ensures.kept c.with_distance-by_distance.ensures.kept;
      second = by_second done c.args.number c.args.operand c.with_sum-least.result far c.with_sum-least.ensures.least;
      below = λ a s is. absurd (omega (arith, s.adder.shifted, is.1));
      some = omega arith;
      few = omega (arith, c.requires.operand.0);
      size = omega arith;
      small = omega (arith, c.requires.operand.1);
    }

pub shifts-preserved : goal.shifts-preserved
shifts-preserved c =
    let i = c.shifts.invariant in
    let done = c.args.sums.now.adders in
    let n = c.args.number in
    let before = c.shifts.least in
    let near = c.with_shifted_distance-least.result in
    let far = c.with_shifted_sum-least.result in
    let kept = not_after_both done far.adder near.adder before.adder c.with_shifted_sum-least.ensures.kept
    c.with_shifted_distance-least.ensures.kept in
    let by : Shifted = record { operand = c.args.operand; shift = c.shifts.shift; size = c.shifts.size } in
    let doubled : 2 ^ (c.shifts.shift + 1) * c.args.operand ≡ 2 * (2 ^ c.shifts.shift * c.args.operand) =
    ap (λ k. 2 ^ k * c.args.operand) (add-one c.shifts.shift) ∙ twice c.shifts.shift c.args.operand in
    record {
      candidate = c.with_shifted_sum-least.ensures.candidate;
      kept = not_after_both done far.adder before.adder c.args.best.adder kept i.kept;
      second = still_least done n (λ a. a.v ≡ c.args.operand) far before kept i.second;
      below = one_shift_more done n by far
          (still_least done n (IsBelow c.args.operand c.shifts.shift) far before kept i.below)
          (still_least done n (IsShiftedDistance by) far near c.with_shifted_sum-least.ensures.kept c.with_shifted_distance-least.ensures.least)
          c.with_shifted_sum-least.ensures.least;
      some = omega (arith, i.some);
      few = omega (arith, i.few);
      size = omega (arith, i.size, doubled);
      small = omega (arith, c.shifts-test.true);
    }

pub returns-clause-least : goal.returns-clause-least
returns-clause-least c =
    let i = c.shifts.invariant in
    all_shifts c.args.sums.now.adders c.args.number c.args.operand c.shifts.shift c.shifts.size c.shifts.least c.requires.number i.size
    (omega (arith, c.shifts-test.false)) i.below i.second
