use Rattle.std.proofs.Common.{◌≡◌, take, map}
use Rattle.opgen_machine.specs.Layout.{start_number}
use Rattle.opgen_machine.proofs.layout.start_numbers.Given as goal

abbrev pub invariant-loop-signal : goal.invariant-loop-signal
invariant-loop-signal l = l.numbers.items ≡ map start_number (take l.signal-index l.signals)
