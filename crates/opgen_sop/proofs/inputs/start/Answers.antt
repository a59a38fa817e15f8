use Rattle.std.proofs.Common.{◌≡◌, sym, ap, ◌∙◌, subst}
use Rattle.std.specs.Prelude.{[]}
use Rattle.opgen_sop.specs.Recipe.{input_net, start}
use Rattle.opgen_sop.specs.Summed.{AreSummed}
use Rattle.opgen_sop.proofs.Steps.{none-summed}
use Rattle.opgen_sop.proofs.inputs.start.Goals as goal

pub returns-clause-summed : goal.returns-clause-summed
returns-clause-summed c =
    let s = c.args.sop.now in
    let g = c.args.guard in
    let is : record { net = c.in_ok-net.net; heap = c.new.result } ≡ start s g =
    ap (λ n. record { net = n; heap = c.new.result }) c.in_ok-net.ensures.ok
    ∙ ap (λ h. record { net = input_net s; heap = h }) (c.new.ensures ∙ ap (λ w. record { width = w; constant = 0; columns = [] }) c.requires.width) in
    subst (AreSummed s g s.scaled s.products) (sym is) (none-summed s g)
