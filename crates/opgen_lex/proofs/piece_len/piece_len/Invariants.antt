use Rattle.std.proofs.Common.{length}
use Rattle.opgen_lex.specs.Left.{symbols_in}
use Rattle.opgen_lex.proofs.FirstPiece.{InFirst}
use Rattle.opgen_lex.proofs.piece_len.piece_len.Given as goal

abbrev pub invariant-tokens : goal.invariant-tokens
invariant-tokens l = InFirst l.bytes l.rest

abbrev pub decreases-tokens : goal.decreases-tokens
decreases-tokens l = length (symbols_in l.rest)
