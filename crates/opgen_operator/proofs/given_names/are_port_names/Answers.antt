use Rattle.std.proofs.Common.{◌≡◌, ◌∙◌, ◌<◌, ◌≤◌, get_or, ap, sym, subst, ⊎_elim, arith}
use Rattle.std.proofs.lemmas.Bool.{cases_lt}
use Rattle.std.specs.Prelude.{IsTrue}
use Rattle.opgen_ports.specs.declared.ports.PortFormat.{PortFormat}
use Rattle.opgen_operator.specs.GivenNames.{is_port_name}
use Rattle.opgen_operator.proofs.Listed.{get_same}
use Rattle.opgen_operator.proofs.given_names.are_port_names.Goals as goal

pub ports-preserved : goal.ports-preserved
ports-preserved c = λ k d below. ⊎_elim
    (λ (lt : k < c.ports.port-index). c.ports.invariant k d lt)
    (λ (ge : c.ports.port-index ≤ k).
    let ports = c.args.ports.now in
    let same : c.ports.port-index ≡ k = omega (arith, ge, below) in
    let item : get_or ports c.ports.port-index d ≡ c.port-item.result =
    get_same ports c.ports.port-index d c.port-item.result c.ports-test.true ∙ sym c.port-item.is in
    let good : IsTrue (is_port_name c.port-item.result.name) =
    ap is_port_name (sym c.as_str.ensures) ∙ sym c.is_port_name.ensures ∙ c.if-not-is_port_name.false in
    subst (λ j. IsTrue (is_port_name (get_or ports j d).name)) same
    (subst (λ (p : PortFormat). IsTrue (is_port_name p.name)) (sym item) good))
    (cases_lt k c.ports.port-index)
