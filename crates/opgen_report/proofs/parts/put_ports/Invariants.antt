use Rattle.std.proofs.Common.{◌≡◌, ◌++◌, drop, string_bytes}
use Rattle.std.specs.List.{flat_map}
use Rattle.opgen_report.specs.Report.{port_line}
use Rattle.opgen_report.proofs.parts.put_ports.Given as goal

abbrev pub invariant-loop-port : goal.invariant-loop-port
invariant-loop-port l =
    string_bytes l.out ++ flat_map (port_line l.side) (drop l.port-index l.ports)
    ≡ string_bytes l.initial.out ++ flat_map (port_line l.side) l.ports
