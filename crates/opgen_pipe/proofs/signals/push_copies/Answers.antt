use Rattle.std.proofs.Common.{◌≡◌, ℕ, ◌+◌, List, Some, ap, ◌∙◌, arith}
use Rattle.opgen_design.specs.declared.design.Signal.{Signal}
use Rattle.opgen_pipe.specs.Pipelined.{copy_signal}
use Rattle.opgen_pipe.proofs.Steps.{range-more}
use Rattle.opgen_pipe.proofs.signals.push_copies.Goals as goal

pub copies-preserved : goal.copies-preserved
copies-preserved c =
    let k = c.copies.copy in
    let own = c.args.own in
    let f : List ℕ → Signal = λ n. record { name = n; width = own.width; initial = Some c.args.zero } in
    let e : 1 + k ≡ k + 1 = omega arith in
    c.in_ok-push.ensures.ok
    ∙ range-more (copy_signal c.args.zero own c.args.node) 1 k (k + 1) c.args.signals.now c.copies.signals
    (f c.in_ok-copy_name.field-0) c.copies.invariant e (ap f c.in_ok-copy_name.ensures)
