use Rattle.std.proofs.Common.{◌≡◌, ◌<◌, ◌^◌, map, take}
use Rattle.std.specs.Prelude.{All}
use Rattle.opgen_num.specs.Rounding.{distance}
use Rattle.opgen_kcm.proofs.table.offsets.Given as goal

abbrev pub invariant-numbers : goal.invariant-numbers
invariant-numbers l = record {
  value : l.all.items ≡ map (λ e. distance e l.least) (take l.number-index l.numbers);
  small : All (λ n. n < 2 ^ 127) l.all.items;
}
