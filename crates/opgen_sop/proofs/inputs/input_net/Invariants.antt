use Rattle.std.proofs.Common.{◌≡◌, [], take, map}
use Rattle.opgen_net.specs.Valid.{IsValid}
use Rattle.opgen_ports.specs.declared.ports.PortFormat.{PortFormat}
use Rattle.opgen_sop.specs.Recipe.{input_nodes}
use Rattle.opgen_sop.proofs.inputs.input_net.Given as goal

abbrev pub invariant-inputs : goal.invariant-inputs
invariant-inputs l = record {
  made : l.net ≡ record {
    inputs = map (λ (p : PortFormat). (p.name, p.format.width)) (take l.port-index l.sop.inputs);
    nodes = input_nodes 0 (take l.port-index l.sop.inputs);
    outputs = [];
  };
  valid : IsValid l.net;
}
