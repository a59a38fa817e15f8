use Rattle.std.proofs.Common.{◌≡◌, drop}
use Rattle.opgen_net.specs.Valid.{IsValid}
use Rattle.opgen_tfir.specs.Recipe.{with_taps}
use Rattle.opgen_tfir.proofs.sums.place_taps.Given as goal

abbrev pub invariant-taps : goal.invariant-taps
invariant-taps l = record {
  valid : IsValid l.net;
  same : l.net ≡ (with_taps l.products l.fn.net (drop l.place l.taps)).net;
  sum : l.sum ≡ (with_taps l.products l.fn.net (drop l.place l.taps)).place;
}
