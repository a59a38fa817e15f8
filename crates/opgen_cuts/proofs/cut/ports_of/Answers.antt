use Rattle.std.proofs.Common.{◌≡◌, ℕ, List, length, get_or, sym, ap, ◌∙◌, subst, arith}
use Rattle.opgen_design.specs.Value.{IsWidth}
use Rattle.opgen_cuts.proofs.Start.{inputs-wide}
use Rattle.opgen_cuts.proofs.cut.ports_of.Goals as goal

pub input-requires-clause-width : goal.input-requires-clause-width
input-requires-clause-width c =
    let net = c.args.net.now in
    let i = c.ports.name-index in
    let x = c.ports-item.result in
    let is : x ≡ get_or net.inputs i x = c.ports-item.is ∙ ap (λ (xs : List (List ℕ × ℕ)). get_or xs i x) c.as_slice-name-items.ensures in
    subst (λ (j : List ℕ × ℕ). IsWidth j.1) (sym is)
    (inputs-wide net c.requires i x (omega (arith, c.ports-test.true, ap length c.as_slice-name-items.ensures)))
