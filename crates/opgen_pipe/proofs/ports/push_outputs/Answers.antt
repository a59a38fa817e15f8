use Rattle.std.proofs.Common.{ℕ, List, ap, ◌∙◌}
use Rattle.opgen_design.specs.declared.design.Dir.TheVariants.{Out}
use Rattle.opgen_design.specs.declared.design.Port.{Port}
use Rattle.opgen_net.specs.Made.{output_port}
use Rattle.opgen_pipe.proofs.Steps.{mapped-more}
use Rattle.opgen_pipe.proofs.ports.push_outputs.Goals as goal

pub outputs-preserved : goal.outputs-preserved
outputs-preserved c =
    let o = c.output-item.result in
    let made : List ℕ → ℕ → Port = λ n w. record { name = n; dir = Out; width = w } in
    mapped-more output_port c.args.outputs.now c.outputs.output-index o c.args.ports.now c.outputs.ports c.push.new.self
    (made c.in_ok-copy.field-0 c.slice_width.result) c.outputs-test.true c.output-item.is
    (ap (λ n. made n c.slice_width.result) c.in_ok-copy.ensures ∙ ap (made o.name) c.slice_width.ensures) c.outputs.invariant
    c.in_ok-push.ensures.ok
