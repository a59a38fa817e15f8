use Rattle.std.proofs.Common.{◌≡◌, not, drop}
use Rattle.std.specs.List.{position_from}
use Rattle.opgen_kinds.specs.Sum.{first_inexact_of}
use Rattle.opgen_ports.specs.Reaches.{is_whole_at}
use Rattle.opgen_kinds.proofs.sum.first_inexact_of.Given as goal

abbrev pub invariant-coefs : goal.invariant-coefs
invariant-coefs l = record {
  same : position_from (λ c. not (is_whole_at l.den l.shift c)) l.index (drop l.coef-index l.coefs)
      ≡ first_inexact_of l.den l.shift l.coefs;
  place : l.index ≡ l.coef-index;
}
