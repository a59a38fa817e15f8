use Rattle.std.proofs.Common.{◌≡◌, map, take}
use Rattle.opgen_num.specs.Words.{nat}
use Rattle.opgen_design.proofs.rules.addresses_differ.Given as goal

abbrev pub invariant-loop-address : goal.invariant-loop-address
invariant-loop-address l = l.numbers.items ≡ map (λ r. nat r.0) (take l.address-index l.rows)
