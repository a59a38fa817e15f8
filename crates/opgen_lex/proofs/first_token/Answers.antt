use Rattle.std.proofs.Common.{Some, drop, subst}
use Rattle.opgen_vhdl.specs.Fronts.{FrontStands}
use Rattle.opgen_lex.proofs.Cuts.{behind_start, behind-white, behind-gap, behind-token}
use Rattle.opgen_lex.proofs.first_token.Goals as goal

pub gaps-init : goal.gaps-init
gaps-init c = rw c.behind_white-rest.ensures (behind-white c.args.bytes.now c.args.bytes.now (behind_start c.args.bytes.now))

pub gaps-preserved : goal.gaps-preserved
gaps-preserved c =
    let stands = subst (λ f. FrontStands c.gaps.rest.now (Some f)) c.in-Gap.is c.in-Some.ensures in
    rw (c.behind_white-rest-in-Gap.ensures, c.split_at.ensures.back)
    (behind-white c.args.bytes.now (drop c.in-Gap.len c.gaps.rest.now)
    (behind-gap c.args.bytes.now c.gaps.rest.now c.gaps.invariant c.in-Gap.len stands))

pub returns-in-Token-clause-some : goal.returns-in-Token-clause-some
returns-in-Token-clause-some c =
    let stands = subst (λ f. FrontStands c.gaps.rest.now (Some f)) c.in-Token.is c.in-Some.ensures in
    rw (c.split_at-in-Token.ensures.front, c.split_at-in-Token.ensures.back)
    (behind-token c.args.bytes.now c.gaps.rest.now c.gaps.invariant c.in-Token.kind c.in-Token.len stands)
