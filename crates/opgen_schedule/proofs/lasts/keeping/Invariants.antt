use Rattle.std.proofs.Common.{◌≡◌, ◌+◌, ◌≤◌, drop}
use Rattle.std.specs.Prelude.{min}
use Rattle.opgen_schedule.specs.Moves.{keeping}
use Rattle.opgen_schedule.proofs.lasts.keeping.Given as goal

abbrev pub invariant-reads : goal.invariant-reads
invariant-reads l = record {
  small : l.total ≤ 18446744073709551615;
  rest : min (l.total + keeping l.costs l.lasts l.cycle (drop l.read-index l.reads)) 18446744073709551615
      ≡ min (keeping l.costs l.lasts l.cycle l.reads) 18446744073709551615;
}
