use Rattle.std.proofs.Common.{◌≡◌, ◌<◌, ◌^◌, drop}
use Rattle.std.specs.Int.{int_min}
use Rattle.std.specs.List.{fold}
use Rattle.std.specs.Prelude.{unsigned_abs}
use Rattle.opgen_kcm.specs.Entries.{least_of}
use Rattle.opgen_kcm.proofs.table.least_of.Given as goal

abbrev pub invariant-numbers : goal.invariant-numbers
invariant-numbers l = record {
  value : fold int_min l.least (drop l.number-index l.numbers) ≡ least_of l.numbers;
  small : unsigned_abs l.least < 2 ^ 126;
}
