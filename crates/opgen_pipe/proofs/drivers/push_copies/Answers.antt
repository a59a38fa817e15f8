use Rattle.std.proofs.Common.{◌≡◌, ◌+◌, ap, ◌∙◌, arith}
use Rattle.opgen_design.specs.declared.design.Driver.TheVariants.{Register}
use Rattle.opgen_runs.proofs.Plain.{plain-name}
use Rattle.opgen_pipe.specs.Pipelined.{copy_register}
use Rattle.opgen_pipe.proofs.Steps.{range-more}
use Rattle.opgen_pipe.proofs.drivers.push_copies.Goals as goal

pub copies-preserved : goal.copies-preserved
copies-preserved c =
    let k = c.copies.copy in
    let own = c.args.own in
    let e : 0 + k ≡ k = omega arith in
    c.in_ok-push.ensures.ok
    ∙ range-more (copy_register own) 0 k k c.args.drivers.now c.copies.drivers
    (Register (own.signal + 1 + k) c.new.result) c.copies.invariant e
    (ap (Register (own.signal + 1 + k)) (c.new.ensures ∙ plain-name (own.signal + k)))
