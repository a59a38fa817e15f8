-- What `workload` answers, by its number and by the targets.
use Rattle.std.specs.Prelude.{ℕ, ◌≡◌, ◌-◌, false, List, [], length}
use Rattle.opgen_design.specs.declared.design.Design.{Design}
use Rattle.opgen_pipe.specs.declared.planning.Planned.{Planned}
use Rattle.opgen_target.specs.Delays.{Delays}
use Rattle.opgen_vec.specs.Stimulus.{stimulus_cells}
use Rattle.opgen_workload.specs.Filter.{workload_spec}
use Rattle.opgen_workload.specs.Judged.{Counts, IsGoodCycle}
use Rattle.opgen_top.specs.declared.line.Line.TheVariants as line
use Rattle.opgen_top.specs.Answer.{Answer, success}
use Rattle.opgen_top.specs.Circuit.{IsCircuit}
use Rattle.opgen_runs.specs.Rows.{IsRunOf}
use Rattle.opgen_top.specs.Specified.{OnDevices, OnTable}
use Rattle.opgen_top.specs.Targets.{Device}

-- how many cycles the filter runs
abbrev pub cycles : ℕ
cycles = 64

-- the numbers that the filter is given: drawn from the number that it is made from
abbrev pub workload_cells : (n : ℕ) → List ℕ
workload_cells n = stimulus_cells (workload_spec n) n cycles

-- In the run of a design over these numbers, so many cycles are good, of those from the latency on.
pub record RunsGood (n : ℕ) (design : Design) (latency good : ℕ) : Type 0 where
  pub outputs : List ℕ
  pub run : IsRunOf design cycles (workload_cells n) outputs
  pub counted : Counts (IsGoodCycle (workload_spec n) (workload_cells n) outputs latency) (cycles - latency) good

-- The line tells how many signals the circuit has, its latency, and how many cycles are good. Nothing is stored.
pub record IsWorked (n : ℕ) (table : Delays) (a : Answer) : Type 0 where
  pub planned : Planned
  pub adders : List ℕ
  pub circuit : IsCircuit (workload_spec n) table false planned adders
  pub good : ℕ
  pub judged : RunsGood n planned.design planned.latency good
  pub answer : a ≡ success (line.Worked n (length planned.design.signals) planned.latency good) []

-- by the targets: the refusals of a specification, or that line
abbrev pub IsAnswerToWorkload : (n : ℕ) → List Device → Answer → Type 0
IsAnswerToWorkload n devices a =
    OnDevices devices (workload_spec n) a (λ table. OnTable (workload_spec n) table a (IsWorked n table a))
