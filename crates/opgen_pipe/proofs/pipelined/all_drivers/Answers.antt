use Rattle.std.proofs.Common.{◌+◌, ◌<◌, ◌^◌, ℕ, List, ◌++◌, filter, length, not, ap, ◌∙◌, arith}
use Rattle.opgen_design.specs.Order.{is_register}
use Rattle.opgen_net.specs.declared.net.Output.{Output}
use Rattle.opgen_net.specs.declared.node.Node.{Node}
use Rattle.opgen_pipe.specs.Pipelined.{all_of, node_drivers, output_drivers}
use Rattle.opgen_pipe.proofs.Fitting.{input-there, outputs-within}
use Rattle.opgen_pipe.proofs.pipelined.all_drivers.Goals as goal

pub push_plain-requires-clause-ports : goal.push_plain-requires-clause-ports
push_plain-requires-clause-ports c = λ k d l p w h.
    let there = input-there c.args.net.now c.requires.valid c.as_slice-nodes.result.now c.as_slice-nodes.ensures k d l p w h in
    let same = ap length c.as_slice-inputs.ensures in
    let few : length c.as_slice-inputs.result.now < 2 ^ 63 = omega arith in
    omega (arith, there, same, few, c.requires.first)

pub push_registers-requires-clause-ports : goal.push_registers-requires-clause-ports
push_registers-requires-clause-ports c = λ k d l p w h.
    let there = input-there c.args.net.now c.requires.valid c.as_slice-nodes.result.now c.as_slice-nodes.ensures k d l p w h in
    let same = ap length c.as_slice-inputs.ensures in
    let few : length c.as_slice-inputs.result.now < 2 ^ 63 = omega arith in
    omega (arith, there, same, few, c.requires.first)

pub push_outputs-requires-clause-there : goal.push_outputs-requires-clause-there
push_outputs-requires-clause-there c =
    outputs-within c.args.net.now c.requires.valid
    (length c.args.standings.now) c.requires.standings c.as_slice-outputs.result.now c.as_slice-outputs.ensures

pub returns : goal.returns
returns c =
    let ps = c.args.standings.now in
    let ns = c.as_slice-nodes.result.now in
    let is = c.as_slice-inputs.result.now in
    let os = c.as_slice-outputs.result.now in
    let nodes = all_of (node_drivers c.args.first ps) 0 in
    let plain = λ (ms : List Node). filter (λ k. not (is_register k)) (nodes ms) in
    let moving = λ (ms : List Node). filter is_register (nodes ms) in
    let last = λ (count : ℕ) (xs : List Output). output_drivers ps c.args.latency (c.args.first + count) xs in
    c.in_ok-push_outputs.ensures
    ∙ ap (λ ks. ks ++ last (length is) os) (
    c.in_ok-push_registers.ensures
    ∙ ap (λ ks. ks ++ moving ns) (c.in_ok-push_plain.ensures ∙ ap (λ ks. ks ++ plain ns) c.new-drivers.ensures)
    )
    ∙ ap (λ ms. (plain ms ++ moving ms) ++ last (length is) os) c.as_slice-nodes.ensures
    ∙ ap (λ xs. (plain c.args.net.now.nodes ++ moving c.args.net.now.nodes) ++ last (length xs) os) c.as_slice-inputs.ensures
    ∙ ap (λ xs. (plain c.args.net.now.nodes ++ moving c.args.net.now.nodes) ++ last (length c.args.net.now.inputs) xs) c.as_slice-outputs.ensures
