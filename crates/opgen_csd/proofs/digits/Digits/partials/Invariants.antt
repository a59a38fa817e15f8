use Rattle.opgen_csd.proofs.Filling.{Fills}
use Rattle.opgen_csd.proofs.digits.Digits.partials.Given as goal

abbrev pub invariant-loop-place : goal.invariant-loop-place
invariant-loop-place l = Fills l.self-inside.digits l.place l.sum l.sums l.len
