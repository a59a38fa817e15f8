use Rattle.std.proofs.Common.{◌≡◌, ◌++◌, drop, string_bytes}
use Rattle.std.specs.List.{flat_map}
use Rattle.opgen_vhdl.specs.DesignText.{port_text}
use Rattle.opgen_write.proofs.entity.put_ports.Given as goal

abbrev pub invariant-ports : goal.invariant-ports
invariant-ports l =
    string_bytes l.out ++ flat_map port_text (drop l.port-index l.port-items)
    ≡ string_bytes l.initial.out ++ flat_map port_text l.port-items
