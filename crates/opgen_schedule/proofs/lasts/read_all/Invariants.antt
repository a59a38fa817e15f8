use Rattle.std.proofs.Common.{◌≡◌, drop}
use Rattle.std.specs.List.{fold}
use Rattle.opgen_schedule.specs.Moves.{read_in}
use Rattle.opgen_schedule.proofs.lasts.read_all.Given as goal

abbrev pub invariant-reads : goal.invariant-reads
invariant-reads l = fold (read_in l.cycle) l.lasts (drop l.read-index l.reads) ≡ fold (read_in l.cycle) l.fn.lasts l.reads
