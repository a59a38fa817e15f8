use Rattle.std.proofs.Common.{◌≡◌, take}
use Rattle.opgen_search.specs.Space.{greatest}
use Rattle.opgen_search.proofs.least.limit.Given as goal

abbrev pub invariant-loop-target : goal.invariant-loop-target
invariant-loop-target l = l.greatest ≡ greatest (take l.target-index l.targets)
