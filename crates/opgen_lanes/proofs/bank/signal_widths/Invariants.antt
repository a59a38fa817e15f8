use Rattle.std.proofs.Common.{◌≡◌, take, map}
use Rattle.opgen_lanes.proofs.bank.signal_widths.Given as goal

abbrev pub invariant-loop-signal : goal.invariant-loop-signal
invariant-loop-signal l = l.widths.items ≡ map (λ s. s.width) (take l.signal-index l.signals)
