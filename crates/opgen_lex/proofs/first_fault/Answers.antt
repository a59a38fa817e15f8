use Rattle.opgen_lex.proofs.Cuts.{behind-shorter, passed_start, passed-token, passed-within, passed-fault, passed-whole}
use Rattle.opgen_lex.proofs.first_fault.Goals as goal

pub tokens-init : goal.tokens-init
tokens-init c = passed_start c.args.bytes.now

pub tokens-smaller : goal.tokens-smaller
tokens-smaller c =
    behind-shorter c.tokens.rest.now c.in-Some._kind c.in-Some._text.now c.in-Some.behind.now c.in-Some.ensures.some

pub tokens-preserved : goal.tokens-preserved
tokens-preserved c =
    passed-token c.args.bytes.now c.tokens.rest.now c.tokens.invariant c.in-Some._kind c.in-Some._text.now c.in-Some.behind.now
    c.in-Some.ensures.some

pub returns-in_err-at-clause-none : goal.returns-in_err-at-clause-none
returns-in_err-at-clause-none c =
    rw c.from_residual.ensures (passed-whole c.args.bytes.now c.tokens.rest.now c.tokens.invariant c.in_err-at.ensures.none)

pub overflow_sub-result : goal.overflow_sub-result
overflow_sub-result c = passed-within c.args.bytes.now c.tokens.rest.now c.tokens.invariant

pub returns-clause-some : goal.returns-clause-some
returns-clause-some c = passed-fault c.args.bytes.now c.tokens.rest.now c.tokens.invariant c.in_ok-at.at c.in_ok-at.ensures.some
