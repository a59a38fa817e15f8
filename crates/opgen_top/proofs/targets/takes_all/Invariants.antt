use Rattle.std.proofs.Common.{◌≡◌, ◌⊎◌, true, drop}
use Rattle.opgen_top.specs.Targets.{tuned}
use Rattle.opgen_top.proofs.targets.takes_all.Given as goal

abbrev pub invariant-lines : goal.invariant-lines
invariant-lines g l = record {
  adjustable : (goal.Target-dyn g (l.target.vtable, l.target.value)).adjustable l.target.value
      ≡ (goal.Target-dyn g (l.fn.target.vtable, l.fn.target.value)).adjustable l.fn.target.value;
  begun : (l.line-index ≡ 0) ⊎ ((goal.Target-dyn g (l.fn.target.vtable, l.fn.target.value)).adjustable l.fn.target.value ≡ true);
  tuned : tuned ((goal.Target-dyn g (l.target.vtable, l.target.value)).delays l.target.value) (drop l.line-index l.lines)
      ≡ tuned ((goal.Target-dyn g (l.fn.target.vtable, l.fn.target.value)).delays l.fn.target.value) l.lines;
}
