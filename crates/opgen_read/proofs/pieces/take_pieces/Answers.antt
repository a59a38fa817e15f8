use Rattle.std.proofs.Common.{arith}
use Rattle.std.proofs.lemmas.Result.{err_from_is_err_and}
use Rattle.opgen_lex.proofs.Cuts.{passed_start, passed-on}
use Rattle.opgen_lex.specs.Left.{left, symbols_in}
use Rattle.opgen_read.specs.Seen.{seen}
use Rattle.opgen_read.proofs.Reaching.{reached_start, reached_more, step_fault}
use Rattle.opgen_lex.proofs.SymbolsIn.{few_symbols}
use Rattle.opgen_read.proofs.pieces.take_pieces.Goals as goal

pub pieces-init : goal.pieces-init
pieces-init c = record {
  reached = reached_start (symbols_in c.args.text.now.now) (seen c.args.draft.now) c.requires.empty;
  within = omega arith;
  passed = passed_start c.args.text.now.now;
}

pub pieces-preserved : goal.pieces-preserved
pieces-preserved c = record {
  reached = reached_more (symbols_in c.args.text.now.now) (symbols_in c.pieces.text.now) c.pieces.place c.in_ok-place.place
      (seen c.pieces.draft) (seen c.step.new.draft) c.pieces.taken (left c.in-Some.piece) (symbols_in c.in-Some.more.now)
      c.pieces.invariant.reached c.in-Some.ensures.some c.in_ok-place.ensures;
  within = omega (arith, c.in-Some.ensures.shorter, c.pieces.invariant.within);
  passed = passed-on c.args.text.now.now c.pieces.text.now c.in-Some.more.now c.pieces.invariant.passed c.in-Some.ensures.passed;
}

pub returns-in_err-place-clause-err : goal.returns-in_err-place-clause-err
returns-in_err-place-clause-err c =
    let p = err_from_is_err_and c.from_residual.result c.from_residual.ensures.1 in
    rw (p.1, p.2) (step_fault (symbols_in c.args.text.now.now) (symbols_in c.pieces.text.now) c.pieces.place (seen c.pieces.draft)
    c.pieces.taken (left c.in-Some.piece) (symbols_in c.in-Some.more.now) c.step.new.draft c.in_err-place.field-0.0
    c.pieces.invariant.reached c.in-Some.ensures.some c.in_err-place.ensures)

pub returns-in_err-place-clause-passed : goal.returns-in_err-place-clause-passed
returns-in_err-place-clause-passed c =
    passed-on c.args.text.now.now c.pieces.text.now c.in-Some.more.now c.pieces.invariant.passed c.in-Some.ensures.passed

pub overflow_add-taken : goal.overflow_add-taken
overflow_add-taken c =
    omega (arith, c.requires.size, few_symbols c.args.text.now.now, c.pieces.invariant.within, c.in-Some.ensures.shorter)

pub overflow_add-taken-in-Some : goal.overflow_add-taken-in-Some
overflow_add-taken-in-Some c =
    omega (arith, c.requires.size, few_symbols c.args.text.now.now, c.pieces.invariant.within, c.in-Some.ensures.shorter)

pub overflow_add-result : goal.overflow_add-result
overflow_add-result c = omega (arith, c.requires.size, few_symbols c.args.text.now.now, c.pieces.invariant.within)
