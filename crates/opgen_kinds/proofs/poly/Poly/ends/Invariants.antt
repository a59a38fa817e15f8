use Rattle.std.proofs.Common.{◌≡◌, ◌-◌, ◌≤◌, drop, length}
use Rattle.opgen_kinds.specs.Horner.{low_end, high_end, all_guarded}
use Rattle.opgen_kinds.proofs.poly.Poly.ends.Given as goal

abbrev pub invariant-places : goal.invariant-places
invariant-places l = record {
  low : l.ends.low ≡ low_end (drop l.at (all_guarded l.self));
  high : l.ends.high ≡ high_end (drop l.at (all_guarded l.self));
  least : l.place ≤ l.at;
  most : l.at ≤ length l.self.coefs;
}

abbrev pub decreases-places : goal.decreases-places
decreases-places l = l.at - l.place
