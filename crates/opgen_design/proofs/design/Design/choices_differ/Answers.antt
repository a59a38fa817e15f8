use Rattle.std.proofs.Common.{◌↔◌, IsTrue, IfOk, sym, subst}
use Rattle.opgen_design.specs.Rules.{DifferentAddresses}
use Rattle.opgen_design.specs.Sound.{AddressesDiffer}
use Rattle.opgen_design.proofs.design.Design.choices_differ.Goals as goal

pub returns-in-Table : goal.returns-in-Table
returns-in-Table c =
    subst (λ k. IfOk c.addresses_differ.result (λ b. IsTrue b ↔ AddressesDiffer k)) (sym c.in-Table.is)
    (subst (λ x. IfOk c.addresses_differ.result (λ b. IsTrue b ↔ DifferentAddresses x)) c.as_slice.ensures c.addresses_differ.ensures)
