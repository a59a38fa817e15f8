-- The machine of a design: a memory, and steps over it that run one cycle.
use Rattle.std.specs.Prelude.{ℕ, ◌≡◌, ◌+◌, ◌<◌, ◌++◌, All, Bool, List, drop, length, map, slice_index, take}
use Rattle.opgen_num.specs.Words.{FitWidths, nat, words_of}
use Rattle.opgen_design.specs.declared.design.Design.{Design}
use Rattle.opgen_design.specs.Run.{Words, Cycle, at_ports, input_widths, is_in, is_out, words_at_outputs}
use Rattle.opgen_design.specs.Sound.{port_widths, signal_widths}
use Rattle.opgen_runs.specs.Step.{IsStep}
use Rattle.opgen_machine.specs.Steps.{AreFine, exec}
use Rattle.opgen_machine.specs.Programs.{AllFit, seen}
use Rattle.opgen_machine.specs.declared.machine.Machine.{Machine}
use Rattle.opgen_machine.specs.declared.program.Program.{Program}
use Rattle.opgen_machine.specs.Laid.{AreLaid, IsFlat}
use Rattle.opgen_machine.specs.Layout.{first_spots, rest_of}
use Rattle.opgen_machine.specs.Moves.{AreMoves, move_all}

-- the words of the signals among numbers, and the words given at the input ports
abbrev pub registers : Design → List ℕ → List (List Bool)
registers d m = words_of (signal_widths d) m

abbrev pub given : Design → List ℕ → List (List Bool)
given d m = at_ports is_in d.ports (seen m (first_spots d)).ports

-- numbers before a cycle: those of the signals and ports fit their widths, and the tables are there
pub record IsState (d : Design) (tables : List ℕ) (base : ℕ) (m : List ℕ) : Type 0 where
  pub count : length m ≡ base
  pub fit : AllFit m (first_spots d)
  pub laid : AreLaid (rest_of d + 1) m d.drivers tables

-- the numbers after the steps of a program, and those after its moves
abbrev pub run_on : Program → List ℕ → List ℕ
run_on p m = exec p.steps.items m

abbrev pub after : Program → List ℕ → List ℕ
after p m = move_all p.moves.items (run_on p m)

-- the steps and moves of a program are a cycle of a design, with the numbers of the output ports at their places
pub record RunsCycle (d : Design) (tables : List ℕ) (base : ℕ) (p : Program) (m : List ℕ) : Type 0 where
  pub words : Words
  pub cycle : Cycle d (registers d m) (given d m) words (registers d (after p m))
  pub outputs : map (λ i. slice_index (run_on p m) i) p.outputs.items ≡ map nat (words_at_outputs d words)
  pub state : IsState d tables base (take base (after p m))

-- a program may be run over so many numbers
pub record IsReady (base : ℕ) (p : Program) : Type 0 where
  pub fine : AreFine base p.steps.items
  pub moves : AreMoves base base (base + length p.steps.items) p.moves.items
  pub outputs : All (λ i. i < base + length p.steps.items) p.outputs.items

-- a program of a design: from all numbers before a cycle it runs a cycle
pub record IsProgramOf (d : Design) (tables : List ℕ) (base : ℕ) (p : Program) : Type 0 where
  pub ready : IsReady base p
  pub cycles : (m : List ℕ) → IsState d tables base m → RunsCycle d tables base p m

-- a machine may be run
pub record CanRun (c : Machine) : Type 0 where
  pub ready : IsReady c.base c.program
  pub room : length c.memory.items ≡ c.base + length c.program.steps.items

-- a machine of a design: a program of it, and numbers before a cycle
pub record IsMachineOf (d : Design) (c : Machine) : Type 0 where
  pub flat : IsFlat d
  pub can_run : CanRun c
  pub inputs : c.inputs ≡ length d.signals
  pub room : rest_of d < c.base
  pub tables : List ℕ
  pub program : IsProgramOf d tables c.base c.program
  pub state : IsState d tables c.base (take c.base c.memory.items)

-- one machine has another's program over as many numbers
pub record IsSameProgram (c e : Machine) : Type 0 where
  pub base : e.base ≡ c.base
  pub inputs : e.inputs ≡ c.inputs
  pub program : e.program ≡ c.program

-- a machine's numbers before a cycle, with these at the input ports
abbrev pub with_inputs : Machine → List ℕ → List ℕ
with_inputs c inputs = take c.base (take c.inputs c.memory.items ++ inputs ++ drop (c.inputs + length inputs) c.memory.items)

-- a machine of a design, a number for each input port that fits it, and a place for each output port
pub record CanStep (d : Design) (c : Machine) (numbers : List ℕ) (places : ℕ) : Type 0 where
  pub machine : IsMachineOf d c
  pub inputs : FitWidths (input_widths d) numbers
  pub outputs : places ≡ length (at_ports is_out d.ports (port_widths d))

-- a machine of a design ran one of its cycles
pub record HasStepped (d : Design) (before : Machine) (inputs : List ℕ) (later : Machine) (outputs : List ℕ) : Type 0 where
  pub machine : IsMachineOf d later
  pub step : IsStep d (registers d before.memory.items) inputs (registers d later.memory.items) outputs
