use Rattle.std.proofs.Common.{◌≡◌, drop, map}
use Rattle.std.specs.Prelude.{◌↔◌}
use Rattle.std.specs.List.{AllZip}
use Rattle.opgen_check.specs.Ports.{IsSamePort}
use Rattle.opgen_operator.specs.Outputs.{port_of}
use Rattle.opgen_check.proofs.ports.are_side.Given as goal

abbrev pub invariant-ports : goal.invariant-ports
invariant-ports l = record {
  place : l.place ≡ l.port-index;
  same : AllZip IsSamePort l.ports (map (port_of l.dir) l.formats)
      ↔ AllZip IsSamePort (drop l.port-index l.ports) (map (port_of l.dir) (drop l.port-index l.formats));
}
