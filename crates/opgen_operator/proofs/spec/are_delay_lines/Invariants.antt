use Rattle.std.proofs.Common.{ℕ, ◌<◌, get_or}
use Rattle.opgen_operator.specs.declared.spec.DelayLine.{DelayLine}
use Rattle.opgen_operator.specs.Valid.{IsDelayLine}
use Rattle.opgen_operator.proofs.spec.are_delay_lines.Given as goal

abbrev pub invariant-lines : goal.invariant-lines
invariant-lines l = (k : ℕ) (d : DelayLine) → k < l.line-index → IsDelayLine (get_or l.lines k d)
