-- The timing of a plan under a table of delays: its schedule fits the period, and none that fits has a smaller latency.
use Rattle.std.specs.Prelude.{ℕ, ◌≡◌, ◌≤◌, Bool, List}
use Rattle.opgen_net.specs.declared.net.Net.{Net}
use Rattle.opgen_schedule.specs.Laws.{PathsEnd}
use Rattle.opgen_schedule.specs.Schedule.{Schedule, Fits}
use Rattle.opgen_target.specs.Delays.{Delays, setup}
use Rattle.opgen_pipe.specs.declared.planning.Planned.{Planned}
use Rattle.opgen_pipe.specs.Cells.{net_delays}
use Rattle.opgen_pipe.specs.Copies.{net_latency}
use Rattle.opgen_pipe.specs.Pipelined.{design_of}

-- a schedule of a net fits a period under a table
abbrev pub NetFits : Delays → (period : ℕ) → Net → Schedule → Type 0
NetFits table period net s = Fits net.nodes (net_delays table net) (setup table) period s

-- A plan is in time where its design and its latency are those of the net at a schedule that fits the period, and in the
-- schedule each path of cells within a cycle ends the setup before the end of the cycle.
pub record IsInTime (name : List ℕ) (enable : Bool) (net : Net) (table : Delays) (period : ℕ) (s : Schedule) (p : Planned) : Type 0 where
  pub design : p.design ≡ design_of name enable net s
  pub latency : p.latency ≡ net_latency net s
  pub fits : NetFits table period net s
  pub paths : PathsEnd net.nodes (net_delays table net) (setup table) period s

-- no schedule of a net that fits has a smaller latency
abbrev pub IsLeastLatency : Delays → (period : ℕ) → Net → (latency : ℕ) → Type 0
IsLeastLatency table period net latency = (s : Schedule) → NetFits table period net s → latency ≤ net_latency net s
