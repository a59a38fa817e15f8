use Rattle.std.proofs.Common.{◌≡◌, drop}
use Rattle.opgen_kcm.specs.Entries.{divides_all}
use Rattle.opgen_kcm.proofs.table.divides_all.Given as goal

abbrev pub invariant-numbers : goal.invariant-numbers
invariant-numbers l = divides_all l.zeros (drop l.number-index l.numbers) ≡ divides_all l.zeros l.numbers
