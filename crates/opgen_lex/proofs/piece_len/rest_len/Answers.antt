use Rattle.std.proofs.Common.{sym, ◌∙◌}
use Rattle.opgen_vhdl.specs.Symbols.{symbol_of}
use Rattle.opgen_lex.proofs.FirstPiece.{rest-none}
use Rattle.opgen_lex.proofs.FirstSymbol.{semicolon_first}
use Rattle.opgen_lex.proofs.piece_len.rest_len.Goals as goal

pub returns-then-same_kind : goal.returns-then-same_kind
returns-then-same_kind c = λ text. rest-none (symbol_of (c.args.kind, text)) c.args.behind.now
    (semicolon_first c.args.kind text ∙ sym c.same_kind.ensures ∙ c.if-same_kind.true)

pub returns-else-same_kind : goal.returns-else-same_kind
returns-else-same_kind c = λ text. c.piece_len.ensures (symbol_of (c.args.kind, text))
    (semicolon_first c.args.kind text ∙ sym c.same_kind.ensures ∙ c.if-same_kind.false)
