use Rattle.opgen_operator.proofs.operator.Operator.is_named.Goals as goal

pub returns-in-Sop : goal.returns-in-Sop
returns-in-Sop c = rw (c.in-Sop.is, ← c.as_slice.ensures) c.are_given_names.ensures
