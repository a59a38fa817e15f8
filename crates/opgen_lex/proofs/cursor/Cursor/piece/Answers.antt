use Rattle.opgen_lex.proofs.HeldToken.{piece-cut, piece-shorter, piece-passed, piece-fits}
use Rattle.opgen_lex.proofs.SymbolsIn.{symbols_in-none}
use Rattle.opgen_lex.proofs.cursor.Cursor.piece.Goals as goal

pub returns-in_err-kind-clause-none : goal.returns-in_err-kind-clause-none
returns-in_err-kind-clause-none c = rw c.from_residual.ensures (symbols_in-none c.args.text.now c.in_err-kind.ensures.none)

pub split_at-requires : goal.split_at-requires
split_at-requires c = (c.rest_len.ensures c.in_ok-kind.first.now).within

pub invariant_of-piece : goal.invariant_of-piece
invariant_of-piece c = record {
  fitting = piece-fits c.args.text.now c.in_ok-kind.kind c.in_ok-kind.first c.in_ok-kind.behind c.split_at.result.0 c.split_at.result.1
      c.rest_len.result c.in_ok-kind.ensures.some (c.rest_len.ensures c.in_ok-kind.first.now) c.split_at.ensures.front c.split_at.ensures.back;
}

pub returns-clause-some : goal.returns-clause-some
returns-clause-some c = piece-cut c.args.text.now c.in_ok-kind.kind c.in_ok-kind.first c.in_ok-kind.behind c.split_at.result.0
    c.split_at.result.1 c.rest_len.result c.in_ok-kind.ensures.some (c.rest_len.ensures c.in_ok-kind.first.now) c.split_at.ensures.front
    c.split_at.ensures.back

pub returns-clause-shorter : goal.returns-clause-shorter
returns-clause-shorter c = piece-shorter c.args.text.now c.in_ok-kind.kind c.in_ok-kind.first c.in_ok-kind.behind c.split_at.result.0
    c.split_at.result.1 c.rest_len.result c.in_ok-kind.ensures.some (c.rest_len.ensures c.in_ok-kind.first.now) c.split_at.ensures.front
    c.split_at.ensures.back

pub returns-clause-passed : goal.returns-clause-passed
returns-clause-passed c = piece-passed c.args.text.now c.in_ok-kind.kind c.in_ok-kind.first c.in_ok-kind.behind c.split_at.result.0
    c.split_at.result.1 c.rest_len.result c.in_ok-kind.ensures.some (c.rest_len.ensures c.in_ok-kind.first.now) c.split_at.ensures.front
    c.split_at.ensures.back
