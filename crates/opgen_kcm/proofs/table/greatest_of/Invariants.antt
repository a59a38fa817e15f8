use Rattle.std.proofs.Common.{◌≡◌, drop, max}
use Rattle.std.specs.List.{fold}
use Rattle.opgen_kcm.specs.Entries.{greatest_of}
use Rattle.opgen_kcm.proofs.table.greatest_of.Given as goal

abbrev pub invariant-numbers : goal.invariant-numbers
invariant-numbers l = fold max l.greatest (drop l.number-index l.numbers) ≡ greatest_of l.numbers
