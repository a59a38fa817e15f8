use Rattle.std.proofs.Common.{sym, ◌∙◌}
use Rattle.opgen_lex.proofs.FirstPiece.{in_first-none, in_first-within, through-within, in_first-semicolon, in_first-more, behind-shorter}
use Rattle.opgen_lex.proofs.piece_len.piece_len.Goals as goal

pub overflow_sub-result : goal.overflow_sub-result
overflow_sub-result c =
    through-within c.args.bytes.now c.tokens.rest.now c.tokens.invariant c.in-Some.kind c.in-Some._text.now c.in-Some.behind.now
    c.in-Some.ensures.some

pub returns-then-same_kind : goal.returns-then-same_kind
returns-then-same_kind c =
    in_first-semicolon c.args.bytes.now c.tokens.rest.now c.tokens.invariant c.in-Some.kind c.in-Some._text.now c.in-Some.behind.now
    c.in-Some.ensures.some (sym c.same_kind.ensures ∙ c.if-same_kind.true)

pub tokens-smaller : goal.tokens-smaller
tokens-smaller c =
    behind-shorter c.tokens.rest.now c.in-Some.kind c.in-Some._text.now c.in-Some.behind.now c.in-Some.ensures.some

pub tokens-preserved : goal.tokens-preserved
tokens-preserved c =
    in_first-more c.args.bytes.now c.tokens.rest.now c.tokens.invariant c.in-Some.kind c.in-Some._text.now c.in-Some.behind.now
    c.in-Some.ensures.some (sym c.same_kind.ensures ∙ c.if-same_kind.false)

pub overflow_sub-result-2 : goal.overflow_sub-result-2
overflow_sub-result-2 c = in_first-within c.args.bytes.now c.tokens.rest.now c.tokens.invariant

pub returns : goal.returns
returns c = in_first-none c.args.bytes.now c.tokens.rest.now c.tokens.invariant c.in_default.ensures.none
