use Rattle.std.proofs.Common.{sym, ◌∙◌}
use Rattle.opgen_machine.proofs.Inputs.{count-outputs, inputs-within, small-inputs, stepped}
use Rattle.opgen_machine.proofs.machine.Machine.step.Goals as goal

pub turn-requires-clause-ready : goal.turn-requires-clause-ready
turn-requires-clause-ready c = c.requires.1.machine.can_run

pub turn-requires-clause-inputs : goal.turn-requires-clause-inputs
turn-requires-clause-inputs c = inputs-within c.requires.0 c.args.self.now c.requires.1.machine c.args.inputs.now c.requires.1.inputs

pub turn-requires-clause-numbers : goal.turn-requires-clause-numbers
turn-requires-clause-numbers c = small-inputs c.requires.0 c.args.self.now c.requires.1.machine c.args.inputs.now c.requires.1.inputs

pub turn-requires-clause-outputs : goal.turn-requires-clause-outputs
turn-requires-clause-outputs c = c.requires.1.outputs
    ∙ sym (count-outputs c.requires.0 c.args.self.now c.requires.1.machine c.args.inputs.now c.requires.1.inputs)

pub returns : goal.returns
returns c = λ d h. stepped d c.args.self.now h.machine c.args.inputs.now h.inputs c.turn.new.self c.turn.new.outputs c.turn.ensures.same
    c.turn.ensures.memory c.turn.ensures.outputs
