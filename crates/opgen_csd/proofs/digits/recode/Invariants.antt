use Rattle.std.proofs.Common.{◌-◌}
use Rattle.opgen_csd.proofs.Recoding.{Recodes}
use Rattle.opgen_csd.proofs.digits.recode.Given as goal

abbrev pub invariant-loop-rest : goal.invariant-loop-rest
invariant-loop-rest l = Recodes l.n l.digits l.len l.rest

abbrev pub decreases-loop-rest : goal.decreases-loop-rest
decreases-loop-rest l = 64 - l.len
