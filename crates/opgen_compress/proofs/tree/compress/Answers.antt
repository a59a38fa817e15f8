use Rattle.std.proofs.Common.{◌≡◌, ◌≤◌, [], sym, ◌∙◌, subst, rules}
use Rattle.opgen_net.proofs.Grown.{grown-then, grown-flow}
use Rattle.opgen_compress.specs.Recipe.{State, all_columns, fullest, lowered}
use Rattle.opgen_heap.specs.Standing.{AllThere}
use Rattle.opgen_compress.specs.Kept.{IsSumOfColumns}
use Rattle.opgen_compress.proofs.Passed.{Passed, lowered-fullest}
use Rattle.opgen_compress.proofs.Finished.{all_columns-length, all_columns-there, all-lowered, heap-sum}
use Rattle.opgen_compress.proofs.tree.compress.Goals as goal

pub lower-requires-clause-there : goal.lower-requires-clause-there
lower-requires-clause-there c =
    let all : c.in_ok-columns.columns.items ≡ all_columns c.args.heap = search rules in
    subst (AllThere c.args.net.now) (sym all) (all_columns-there c.args.net.now c.args.heap c.requires.there)

pub finish-requires-clause-columns : goal.finish-requires-clause-columns
finish-requires-clause-columns c =
    let s : State = record { net = c.lower.new.net; columns = c.deref.result.now } in
    let left : lowered c.args.net.now (all_columns c.args.heap) ≡ s = search rules in
    let p = subst (Passed c.args.net.now [] (all_columns c.args.heap)) left
    (all-lowered c.args.net.now c.args.heap c.requires.net c.requires.there) in
    p.many ∙ all_columns-length c.args.heap ∙ sym c.width-width.ensures.value

pub finish-requires-clause-two : goal.finish-requires-clause-two
finish-requires-clause-two c =
    let s : State = record { net = c.lower.new.net; columns = c.deref.result.now } in
    let left : lowered c.args.net.now (all_columns c.args.heap) ≡ s = search rules in
    subst (λ (u : State). fullest u.columns ≤ 2) left (lowered-fullest c.args.net.now (all_columns c.args.heap))

pub finish-requires-clause-there : goal.finish-requires-clause-there
finish-requires-clause-there c =
    let s : State = record { net = c.lower.new.net; columns = c.deref.result.now } in
    let left : lowered c.args.net.now (all_columns c.args.heap) ≡ s = search rules in
    let p = subst (Passed c.args.net.now [] (all_columns c.args.heap)) left
    (all-lowered c.args.net.now c.args.heap c.requires.net c.requires.there) in
    p.there

pub returns-clause-sum : goal.returns-clause-sum
returns-clause-sum c =
    let heap = c.args.heap in
    let s : State = record { net = c.lower.new.net; columns = c.deref.result.now } in
    let left : lowered c.args.net.now (all_columns heap) ≡ s = search rules in
    let p = subst (Passed c.args.net.now [] (all_columns heap)) left (all-lowered c.args.net.now heap c.requires.net c.requires.there) in
    let sum = subst (λ w. IsSumOfColumns s.net s.columns w c.finish.new.net.nodes c.in_ok-answer.answer) c.width-width.ensures.value
    c.in_ok-answer.ensures.sum in
    heap-sum c.args.net.now heap s c.finish.new.net.nodes c.in_ok-answer.answer c.columns_of.ensures.few c.columns_of.ensures.below p sum

pub returns-clause-grown : goal.returns-clause-grown
returns-clause-grown c =
    let heap = c.args.heap in
    let s : State = record { net = c.lower.new.net; columns = c.deref.result.now } in
    let left : lowered c.args.net.now (all_columns heap) ≡ s = search rules in
    let p = subst (Passed c.args.net.now [] (all_columns heap)) left (all-lowered c.args.net.now heap c.requires.net c.requires.there) in
    grown-then c.args.net.now c.lower.new.net c.finish.new.net p.later.grown c.in_ok-answer.ensures.grown

pub returns-clause-flow : goal.returns-clause-flow
returns-clause-flow c = grown-flow c.args.net.now c.finish.new.net (returns-clause-grown c)
