use Rattle.std.proofs.Common.{ℕ, List, ap}
use Rattle.opgen_design.specs.declared.design.Dir.TheVariants.{In}
use Rattle.opgen_design.specs.declared.design.Port.{Port}
use Rattle.opgen_net.specs.Made.{input_port}
use Rattle.opgen_pipe.proofs.Steps.{mapped-more}
use Rattle.opgen_pipe.proofs.ports.push_inputs.Goals as goal

pub inputs-preserved : goal.inputs-preserved
inputs-preserved c =
    let x = c.inputs-item.result in
    let named : List ℕ → Port = λ n. record { name = n; dir = In; width = x.1 } in
    mapped-more input_port c.args.inputs.now c.inputs.name-index x c.args.ports.now c.inputs.ports c.push.new.self
    (named c.in_ok-copy.field-0) c.inputs-test.true c.inputs-item.is (ap named c.in_ok-copy.ensures) c.inputs.invariant
    c.in_ok-push.ensures.ok
