use Rattle.std.proofs.Common.{◌≡◌, drop}
use Rattle.opgen_net.specs.Valid.{IsValid}
use Rattle.opgen_cuts.specs.Recipe.{ports_of, with_ports}
use Rattle.opgen_cuts.proofs.cut.ports_of.Given as goal

-- the ports that are left lead to the whole
abbrev pub invariant-ports : goal.invariant-ports
invariant-ports l = record {
  left : with_ports (drop l.name-index l.name-items) l.ports ≡ ports_of l.net;
  valid : IsValid l.ports;
}
