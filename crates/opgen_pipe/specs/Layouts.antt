-- Layouts: what the design of a net at a schedule needs.
use Rattle.std.specs.Prelude.{ℕ, ◌≡◌, ◌-◌, ◌≤◌, Result, Ok, Err, length}
use Rattle.opgen_design.specs.declared.design.TheConstants.{MAX_SIGNALS}
use Rattle.opgen_net.specs.declared.net.Net.{Net}
use Rattle.opgen_schedule.specs.Schedule.{Schedule, greatest_time}
use Rattle.opgen_schedule.specs.Stage.{slot_at}
use Rattle.opgen_target.specs.Delays.{Delays, setup}
use Rattle.opgen_pipe.specs.declared.layout.Layout.{Layout}
use Rattle.opgen_pipe.specs.declared.placing.Placing.{Placing}
use Rattle.opgen_pipe.specs.declared.planning.PlanFault.{PlanFault}
use Rattle.opgen_pipe.specs.Cells.{need}
use Rattle.opgen_pipe.specs.Copies.{net_latency, signal_count}
use Rattle.opgen_pipe.specs.Planned.{IsCause, slots_by}
use Rattle.opgen_pipe.specs.Standings.{standings, standing_at}

-- the schedule of a layout
abbrev pub schedule_of : Layout → Schedule
schedule_of l i = (standing_at l.standings.items i).slot

-- a layout of a net: where each node stands, in a cycle that is at most the number of nodes, and the latency
pub record IsLayout (net : Net) (l : Layout) : Type 0 where
  pub standings : l.standings.items ≡ standings net (schedule_of l)
  pub early : (i : ℕ) → (schedule_of l i).cycle ≤ length net.nodes
  pub latency : l.latency ≡ net_latency net (schedule_of l)

-- its schedule is that by a placing under a table of delays, and its slack is what the longest cycle leaves of the period
pub record IsScheduledFor (net : Net) (placing : Placing) (table : Delays) (period : ℕ) (l : Layout) : Type 0 where
  pub schedule : schedule_of l ≡ slot_at (slots_by placing table period net)
  pub slack : l.slack ≡ period - setup table - greatest_time (slots_by placing table period net)

-- a layout where the period is long enough and the signals are few enough, and else why there is none
abbrev pub IsLaidOut : Net → (placing : Placing) → (table : Delays) → (period : ℕ) → Result Layout PlanFault → Type 0
IsLaidOut net placing table period (Ok l) =
    (need table net ≤ period) × (signal_count net (schedule_of l) ≤ MAX_SIGNALS) × IsScheduledFor net placing table period l
IsLaidOut net placing table period (Err fault) = IsCause net placing table period fault
