use Rattle.std.proofs.Common.{ℕ, [], map, refl, ap, ◌∙◌}
use Rattle.std.proofs.lemmas.List.{take_all}
use Rattle.opgen_net.specs.declared.net.Output.{Output}
use Rattle.opgen_pipe.proofs.Steps.{mapped-more}
use Rattle.opgen_pipe.proofs.counts.output_nodes.Goals as goal

pub outputs-preserved : goal.outputs-preserved
outputs-preserved c =
    let f : Output → ℕ = λ o. o.from.node in
    let o = c.output-item.result in
    mapped-more f c.args.outputs.now c.outputs.output-index o [] c.outputs.nodes.items c.push.new.self.items (f o) c.outputs-test.true
    c.output-item.is refl c.outputs.invariant c.in_ok-push.ensures.items

pub returns : goal.returns
returns c =
    let f : Output → ℕ = λ o. o.from.node in
    c.outputs.invariant ∙ ap (map f) (take_all c.outputs.output-index c.args.outputs.now c.outputs-test.false)
