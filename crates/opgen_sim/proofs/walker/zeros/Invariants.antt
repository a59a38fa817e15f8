use Rattle.std.proofs.Common.{◌≡◌, take, map}
use Rattle.opgen_num.specs.Words.{word}
use Rattle.opgen_sim.proofs.walker.zeros.Given as goal

abbrev pub invariant-loop-port : goal.invariant-loop-port
invariant-loop-port l = l.words.items ≡ map (λ p. word p.width 0) (take l.port-index l.ports)
