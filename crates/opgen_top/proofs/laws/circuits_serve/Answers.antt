use Rattle.opgen_pipe.specs.Cells.{net_delays}
use Rattle.opgen_schedule.specs.Stage.{slot_at}
use Rattle.opgen_target.specs.Delays.{setup}
use Rattle.opgen_top.specs.Circuit.{slots_for}
use Rattle.opgen_top.proofs.Planning.{circuit_serves, fit, fitting}
use Rattle.opgen_top.proofs.laws.circuits_serve.Goals as goal

pub returns : goal.returns
returns c = λ spec valid table enable planned adders circuit.
    circuit_serves spec valid table enable planned adders circuit
    (c.run_follows_flow.ensures spec.name enable circuit.net (net_delays table circuit.net) (setup table) spec.period
    (slot_at (slots_for spec table circuit.net)) (fitting spec valid table enable planned adders circuit).fits.valid
    (fit spec valid table enable planned adders circuit))
