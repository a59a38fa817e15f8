use Rattle.std.proofs.Common.{length}
use Rattle.opgen_lex.specs.First.{IsPassed}
use Rattle.opgen_lex.proofs.first_fault.Given as goal

abbrev pub invariant-tokens : goal.invariant-tokens
invariant-tokens l = IsPassed l.bytes l.rest

abbrev pub decreases-tokens : goal.decreases-tokens
decreases-tokens l = length l.rest
