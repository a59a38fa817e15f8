use Rattle.std.proofs.Common.{refl}
use Rattle.opgen_sim.proofs.sim.Sim.from_design.Goals as goal

pub returns-clause-new : goal.returns-clause-new
returns-clause-new c = record { design = refl; registers = c.in_ok-engine.ensures.registers }
