use Rattle.std.proofs.Common.{◌≡◌, take, map}
use Rattle.std.specs.Prelude.{unwrap_or}
use Rattle.opgen_num.specs.Words.{word}
use Rattle.opgen_sim.proofs.walker.initial_words.Given as goal

abbrev pub invariant-loop-signal : goal.invariant-loop-signal
invariant-loop-signal l = l.words.items ≡ map (λ s. unwrap_or s.initial (word s.width 0)) (take l.signal-index l.signals)
