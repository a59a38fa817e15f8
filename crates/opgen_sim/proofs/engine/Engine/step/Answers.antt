use Rattle.std.proofs.Common.{length, sym, subst}
use Rattle.opgen_machine.specs.Machines.{CanStep, registers}
use Rattle.opgen_runs.specs.Step.{IsStep}
use Rattle.opgen_sim.specs.Engines.{IsEngineOf, registers_of}
use Rattle.opgen_sim.proofs.engine.Engine.step.Goals as goal

pub returns-in-Flat-clause-engine : goal.returns-in-Flat-clause-engine
returns-in-Flat-clause-engine c =
    let d = c.args.design.now in
    let h = subst (IsEngineOf d) c.in-Flat.is c.requires.engine in
    let can : CanStep d c.in-Flat.machine c.args.inputs.now (length c.args.outputs.now) = record
    { machine = h; inputs = c.requires.inputs; outputs = c.requires.outputs } in
    (c.step.ensures d can).machine

pub returns-in-Flat-clause-step : goal.returns-in-Flat-clause-step
returns-in-Flat-clause-step c =
    let d = c.args.design.now in
    let h = subst (IsEngineOf d) c.in-Flat.is c.requires.engine in
    let can : CanStep d c.in-Flat.machine c.args.inputs.now (length c.args.outputs.now) = record
    { machine = h; inputs = c.requires.inputs; outputs = c.requires.outputs } in
    subst (λ e. IsStep d (registers_of d e) c.args.inputs.now (registers d c.step.new.self.memory.items) c.step.new.outputs)
    (sym c.in-Flat.is) (c.step.ensures d can).step
