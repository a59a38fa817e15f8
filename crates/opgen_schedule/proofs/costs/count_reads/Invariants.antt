use Rattle.std.proofs.Common.{◌≡◌, drop}
use Rattle.std.specs.List.{fold}
use Rattle.opgen_schedule.specs.Moves.{count_reader}
use Rattle.opgen_schedule.proofs.costs.count_reads.Given as goal

abbrev pub invariant-reads : goal.invariant-reads
invariant-reads l = fold count_reader l.counts (drop l.read-index l.reads) ≡ fold count_reader l.fn.counts l.reads
