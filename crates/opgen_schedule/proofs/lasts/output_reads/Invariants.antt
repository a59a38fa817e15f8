use Rattle.std.proofs.Common.{◌≡◌, length, drop}
use Rattle.std.specs.Prelude.{replicate}
use Rattle.opgen_schedule.specs.Moves.{output_reads}
use Rattle.opgen_schedule.proofs.lasts.output_reads.Given as goal

abbrev pub invariant-outputs : goal.invariant-outputs
invariant-outputs l = record {
  long : length l.lasts.items ≡ l.count;
  rest : output_reads l.latency l.lasts.items (drop l.output-index l.outputs) ≡ output_reads l.latency (replicate l.count 0) l.outputs;
}
