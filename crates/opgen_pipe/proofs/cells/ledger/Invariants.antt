use Rattle.std.proofs.Common.{◌≡◌, ◌<◌, ℕ, length, get_or}
use Rattle.opgen_net.specs.declared.cell.Class.TheVariants.{Wire}
use Rattle.opgen_net.specs.Classes.{classes}
use Rattle.opgen_pipe.proofs.cells.ledger.Given as goal

abbrev pub invariant-classes : goal.invariant-classes
invariant-classes g l = record {
  count : length l.numbers ≡ 6;
  each : (k : ℕ) → k < l.place → get_or l.numbers k 0
      ≡ (goal.Target-dyn g (l.target.vtable, l.target.value)).ledger l.target.value (get_or classes k Wire);
}
