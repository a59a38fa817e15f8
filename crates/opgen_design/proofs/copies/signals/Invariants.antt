use Rattle.std.proofs.Common.{◌≡◌, take}
use Rattle.opgen_design.proofs.copies.signals.Given as goal

abbrev pub invariant-loop-signal : goal.invariant-loop-signal
invariant-loop-signal l = l.copies ≡ take l.signal-index l.signals
