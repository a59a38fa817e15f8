use Rattle.opgen_timing.specs.Widths.{SumsFit}
use Rattle.opgen_timing.proofs.widths.sum_width.Given as goal

-- sums of each width so far fit
abbrev pub invariant-widths : goal.invariant-widths
invariant-widths g l = SumsFit ((goal.Target-dyn g (l.target.vtable, l.target.value)).delays l.target.value) l.period l.most
