use Rattle.opgen_top.proofs.Planning.{circuit_recovers}
use Rattle.opgen_top.proofs.laws.circuits_recover.Goals as goal

pub returns : goal.returns
returns c = λ spec valid table enable planned adders circuit.
    circuit_recovers spec valid table enable planned adders circuit c.enabled_cycles_are_runs.ensures c.any_cycles_are_runs.ensures
    (c.circuits_serve.ensures spec valid table enable planned adders circuit)
