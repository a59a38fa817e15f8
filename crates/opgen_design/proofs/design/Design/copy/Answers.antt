use Rattle.std.proofs.Common.{◌≡◌, ℕ, List, ap, ◌∙◌}
use Rattle.opgen_design.specs.declared.design.Design.{Design}
use Rattle.opgen_design.specs.declared.design.Port.{Port}
use Rattle.opgen_design.specs.declared.design.Signal.{Signal}
use Rattle.opgen_design.specs.declared.design.Driver.{Driver}
use Rattle.opgen_design.proofs.design.Design.copy.Goals as goal

abbrev of-parts : Design → List ℕ → List Port → List Signal → List Driver → Design
of-parts d n ps ss ks = record { name = n; ports = ps; signals = ss; drivers = ks; enable = d.enable }

same-parts : (d : Design) (n : List ℕ) (ps : List Port) (ss : List Signal) (ks : List Driver) → n ≡ d.name → ps ≡ d.ports
    → ss ≡ d.signals → ks ≡ d.drivers → of-parts d n ps ss ks ≡ d
same-parts d n ps ss ks e f g h =
    ap (λ x. of-parts d x ps ss ks) e
    ∙ ap (λ x. of-parts d d.name x ss ks) f
    ∙ ap (λ x. of-parts d d.name d.ports x ks) g
    ∙ ap (λ x. of-parts d d.name d.ports d.signals x) h

pub returns : goal.returns
returns c =
    same-parts c.args.self.now c.in_ok-copy.field-0 c.in_ok-ports.field-0 c.in_ok-signals.field-0 c.in_ok-drivers.field-0
    c.in_ok-copy.ensures (c.in_ok-ports.ensures ∙ c.as_slice.ensures) (c.in_ok-signals.ensures ∙ c.as_slice-2.ensures)
    (c.in_ok-drivers.ensures ∙ c.as_slice-3.ensures)
