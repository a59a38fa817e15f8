use Rattle.std.proofs.Common.{◌≡◌, ◌<◌, ◌^◌}
use Rattle.std.specs.Prelude.{All, unsigned_abs}
use Rattle.opgen_kcm.specs.Entries.{entries}
use Rattle.opgen_kcm.proofs.table.entries.Given as goal

abbrev pub invariant-addresses : goal.invariant-addresses
invariant-addresses l = record {
  value : l.all.items ≡ entries l.q l.chunk l.address;
  small : All (λ e. unsigned_abs e < 2 ^ 126) l.all.items;
}
