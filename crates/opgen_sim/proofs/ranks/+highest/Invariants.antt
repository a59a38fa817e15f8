use Rattle.std.proofs.Common.{◌≡◌, get_or, take}
use Rattle.opgen_design.specs.Plain.{plain_all}
use Rattle.opgen_sim.specs.Ranks.{highest_of}
use Rattle.opgen_sim.proofs.ranks.+highest.Given as goal

abbrev pub invariant-highest_of-loop-operand : goal.invariant-highest_of-loop-operand
invariant-highest_of-loop-operand l = l.most ≡ highest_of (λ s. get_or l.ranks s 0) (plain_all (take l.operand-index l.operands))
