use Rattle.std.proofs.Common.{◌≡◌, ◌<◌, ap, ◌∙◌, subst, arith}
use Rattle.std.specs.Prelude.{IfOk}
use Rattle.opgen_num.specs.declared.format.TheConstants.{MAX_WIDTH}
use Rattle.opgen_cuts.specs.Recipe.{cut_net}
use Rattle.opgen_net.specs.declared.net.Net.{Net}
use Rattle.opgen_pipe.specs.Cells.{need}
use Rattle.opgen_timing.specs.Nets.{net_for}
use Rattle.opgen_timing.proofs.Made.{cut-is, whole-is}
use Rattle.opgen_timing.proofs.nets.net_for.Goals as goal

pub returns-then-branch-from-clause-net : goal.returns-then-branch-from-clause-net
returns-then-branch-from-clause-net g c =
    let table = (goal.Target-dyn g (c.args.target.now.vtable, c.args.target.now.value)).delays c.args.target.now.value in
    let whole = c.in_ok-whole.ensures.net in
    whole
    ∙ whole-is table c.args.period c.args.net.now
    (omega (arith, c.if-branch-from.true, c.from.ensures, c.in_ok-need.ensures, ap (need table) whole))

pub returns-else-branch-from-clause-net : goal.returns-else-branch-from-clause-net
returns-else-branch-from-clause-net g c =
    let table = (goal.Target-dyn g (c.args.target.now.vtable, c.args.target.now.value)).delays c.args.target.now.value in
    let period = c.args.period in
    let net = c.args.net.now in
    let whole = ap (need table) c.in_ok-whole.ensures.net in
    let long : period < need table (cut_net MAX_WIDTH net) =
    omega (arith, c.if-branch-from.false, c.from.ensures, c.in_ok-need.ensures, whole) in
    subst (λ n. IfOk c.cut_sums-else-branch-from.result (λ made. made ≡ n))
    (ap (λ w. cut_net w net) c.sum_width.ensures.width ∙ cut-is table period net long) c.cut_sums-else-branch-from.ensures.net
