use Rattle.std.proofs.Common.{◌≤◌, ◌-◌, length}
use Rattle.opgen_workload.specs.Judged.{Counts, IsGoodCycle}
use Rattle.opgen_workload.proofs.judge.good_cycles.Given as goal

abbrev pub invariant-cycles : goal.invariant-cycles
invariant-cycles l = record {
  within : l.cycle ≤ length l.outputs - l.fn.latency;
  fewer : l.good ≤ l.cycle;
  counted : Counts (IsGoodCycle l.spec l.inputs l.outputs l.fn.latency) l.cycle l.good;
}

abbrev pub decreases-cycles : goal.decreases-cycles
decreases-cycles l = length l.outputs - l.cycle
