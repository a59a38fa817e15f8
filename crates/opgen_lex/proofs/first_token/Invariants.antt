use Rattle.std.proofs.Common.{length}
use Rattle.opgen_lex.proofs.Cuts.{Behind}
use Rattle.opgen_lex.proofs.first_token.Given as goal

abbrev pub invariant-gaps : goal.invariant-gaps
invariant-gaps l = Behind l.bytes l.rest

abbrev pub decreases-gaps : goal.decreases-gaps
decreases-gaps l = length l.rest
