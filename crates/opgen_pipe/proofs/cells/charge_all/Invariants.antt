use Rattle.std.proofs.Common.{◌≡◌, take}
use Rattle.opgen_target.specs.Ledger.{ledger_of}
use Rattle.opgen_pipe.proofs.cells.charge_all.Given as goal

abbrev pub invariant-cells : goal.invariant-cells
invariant-cells g l = record {
  ledger : (goal.Target-dyn g (l.target.vtable, l.target.value)).ledger l.target.value ≡ ledger_of (take l.cell-index l.cells);
  target_name : (goal.Target-dyn g (l.target.vtable, l.target.value)).target_name l.target.value
      ≡ (goal.Target-dyn g (l.fn.target.vtable, l.fn.target.value)).target_name l.fn.target.value;
  delays : (goal.Target-dyn g (l.target.vtable, l.target.value)).delays l.target.value
      ≡ (goal.Target-dyn g (l.fn.target.vtable, l.fn.target.value)).delays l.fn.target.value;
  adjustable : (goal.Target-dyn g (l.target.vtable, l.target.value)).adjustable l.target.value
      ≡ (goal.Target-dyn g (l.fn.target.vtable, l.fn.target.value)).adjustable l.fn.target.value;
}
