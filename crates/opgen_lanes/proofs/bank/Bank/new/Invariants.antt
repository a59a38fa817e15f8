use Rattle.std.proofs.Common.{◌≡◌, ◌++◌, ◌+◌, drop, sum}
use Rattle.opgen_lanes.specs.Banks.{places_from}
use Rattle.opgen_lanes.proofs.bank.Bank.new.Given as goal

abbrev pub invariant-loop-width : goal.invariant-loop-width
invariant-loop-width l = record {
  places : l.places.items ++ places_from l.start (drop l.width-index l.widths) ≡ places_from 0 l.widths;
  total : l.start + sum (drop l.width-index l.widths) ≡ sum l.widths;
}
