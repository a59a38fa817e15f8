use Rattle.std.proofs.Common.{◌<◌, ◌≤◌, [], ⊎_elim, take, length, Contains, sym, subst}
use Rattle.opgen_graph.specs.Graphs.{values}
use Rattle.opgen_graph.proofs.Members.{there, of_nil}
use Rattle.opgen_shared.specs.Steps.{HasOperand}
use Rattle.opgen_shared.specs.Sums.{placed_by}
use Rattle.opgen_shared.proofs.Comparing.{candidate_lighter}
use Rattle.opgen_shared.proofs.Covering.{IsAmong, one_item_more, all_values}
use Rattle.opgen_shared.proofs.Ranking.{still_least}
use Rattle.opgen_shared.proofs.StepLaws.{value_in, wide_value}
use Rattle.opgen_shared.proofs.steps.best_step.Goals as goal

pub with_operand-least-requires-in-adders-clause-operand : goal.with_operand-least-requires-in-adders-clause-operand
with_operand-least-requires-in-adders-clause-operand c =
    wide_value c.args.sums.now.adders _ c.requires.sums.graph.members
    (value_in c.args.sums.now.adders _ c.adders.adder-index _ c.as_slice-adder-items.ensures c.adders-test.true)

pub with_operand-least-requires-in-adders-clause-stands : goal.with_operand-least-requires-in-adders-clause-stands
with_operand-least-requires-in-adders-clause-stands c =
    there 1 _ (values c.args.sums.now.adders)
    (value_in c.args.sums.now.adders _ c.adders.adder-index _ c.as_slice-adder-items.ensures c.adders-test.true)

pub with_operand-least-requires-in-adders-clause-other : goal.with_operand-least-requires-in-adders-clause-other
with_operand-least-requires-in-adders-clause-other c =
    λ e. c.requires.new (subst (Contains (placed_by c.args.sums.now.adders)) (sym e) (there 1 _ (values c.args.sums.now.adders)
    (value_in c.args.sums.now.adders _ c.adders.adder-index _ c.as_slice-adder-items.ensures c.adders-test.true)))

pub adders-init : goal.adders-init
adders-init c = record {
  candidate = c.with_operand-least.ensures.candidate;
  one = c.with_operand-least.ensures.least;
  among = λ a s is. absurd (⊎_elim (λ (k : Contains [] a.u). of_nil a.u k) (λ (k : Contains [] a.v). of_nil a.v k) is);
}

pub adders-preserved : goal.adders-preserved
adders-preserved c =
    let i = c.adders.invariant in
    let done = c.args.sums.now.adders in
    let n = c.args.number in
    let before = c.adders.least in
    let now = c.with_operand-least-in-adders.result in
    let kept = c.with_operand-least-in-adders.ensures.kept in
    record {
      candidate = c.with_operand-least-in-adders.ensures.candidate;
      one = still_least done n (HasOperand 1) now before kept i.one;
      among = one_item_more done c.as_slice-adder-items.result.now n c.adders.adder-index _ now c.as_slice-adder-items.ensures
          c.adders-test.true
          (still_least done n (IsAmong (values (take c.adders.adder-index done))) now before kept i.among)
          c.with_operand-least-in-adders.ensures.least;
    }

pub returns-clause-best : goal.returns-clause-best
returns-clause-best c =
    let i = c.adders.invariant in
    all_values c.args.sums.now.adders c.args.number c.adders.adder-index c.adders.least
    (subst (λ xs. length xs ≤ c.adders.adder-index) c.as_slice-adder-items.ensures c.adders-test.false) i.candidate.step i.one i.among

pub returns-clause-lighter : goal.returns-clause-lighter
returns-clause-lighter c =
    subst (λ n. c.adders.least.weight < n) (sym c.requires.count)
    (candidate_lighter c.args.sums.now.adders c.args.sums.now.levels.items c.args.number c.adders.least c.requires.sums c.adders.invariant.candidate)
