use Rattle.std.proofs.Common.{◌+◌, ◌-◌, ◌/◌, refl, sym, subst}
use Rattle.opgen_search.specs.Forks.{IsAsked, IsFound}
use Rattle.opgen_search.proofs.Forking.{one_piece, found_both}
use Rattle.opgen_search.proofs.fork.+fn-run_pieces-join+arg2+fn-run_pieces-join+arg3+run_pieces.Goals as goal

pub run_piece-requires : goal.run_piece-requires
run_piece-requires g t c =
    let task = c.args.task in
    subst (IsAsked c.args.bound.now c.args.search.now task.pass task.low) (one_piece task.low task.high c.if-high-low-eq1.true) c.requires

pub returns-then-high-low-eq1 : goal.returns-then-high-low-eq1
returns-then-high-low-eq1 g t c =
    let task = c.args.task in
    subst (λ high. IsFound c.args.bound.now c.args.search.now task.pass task.low high c.run_piece.result)
    (sym (one_piece task.low task.high c.if-high-low-eq1.true)) c.run_piece.ensures

pub returns : goal.returns
returns g t c =
    let task = c.args.task in
    let middle = task.low + (task.high - task.low) / 2 in
    found_both c.args.bound.now c.args.search.now task.pass c.split-other.result c.split-other.new.pass task.low middle task.high
    c.join-left.result.0 c.join-left.result.1 c.merge.result refl c.requires.range.0 c.split-other.ensures.given c.split-other.ensures.kept
    c.join-left.ensures.first c.join-left.ensures.second c.merge.ensures.bound c.merge.ensures.view c.merge.ensures.count
    (c.merge.ensures.answered task.low middle task.high)
