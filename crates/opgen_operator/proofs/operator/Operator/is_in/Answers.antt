use Rattle.opgen_operator.proofs.operator.Operator.is_in.Goals as goal

pub returns-in-Multiply : goal.returns-in-Multiply
returns-in-Multiply c = rw c.in-Multiply.is c.is_in-in-Multiply.ensures

pub returns-in-Tfir : goal.returns-in-Tfir
returns-in-Tfir c = rw c.in-Tfir.is c.is_in-in-Tfir.ensures
