-- What a plan returns: a design with its latency, slack and cells, or why no such design exists.
use Rattle.std.specs.Prelude.{ℕ, ◌≡◌, ◌-◌, ◌<◌, ◌≤◌, Bool, List, map, Result, Ok, Err}
use Rattle.opgen_design.specs.declared.design.TheConstants.{MAX_SIGNALS}
use Rattle.opgen_net.specs.declared.net.Net.{Net}
use Rattle.opgen_net.specs.Classes.{classes}
use Rattle.opgen_schedule.specs.declared.slot.Slot.{Slot}
use Rattle.opgen_schedule.specs.Schedule.{greatest_time}
use Rattle.opgen_schedule.specs.Stage.{slot_at, stage}
use Rattle.opgen_target.specs.Delays.{Delays, setup}
use Rattle.opgen_target.specs.Ledger.{width_sum}
use Rattle.opgen_pipe.specs.declared.placing.Placing.{Placing}
use Rattle.opgen_pipe.specs.declared.planning.Planned.{Planned}
use Rattle.opgen_pipe.specs.declared.planning.PlanFault.{PlanFault}
use Rattle.opgen_pipe.specs.declared.planning.PlanFault.TheVariants.{PeriodTooShort, TooLarge, Memory}
use Rattle.opgen_pipe.specs.Cells.{net_delays, need, design_cells}
use Rattle.opgen_pipe.specs.Copies.{net_latency, signal_count}
use Rattle.opgen_pipe.specs.Pipelined.{design_of}
use Rattle.opgen_pipe.specs.Placed.{slots_placed}

-- the slots of the schedule of one pass under a table of delays
abbrev pub slots_of : Delays → (period : ℕ) → Net → List Slot
slots_of table period net = stage (net_delays table net) (setup table) period net.nodes

-- the slots of the schedule by its placing
abbrev pub slots_by : Placing → Delays → (period : ℕ) → Net → List Slot
slots_by placing table period net = slots_placed placing (net_delays table net) (setup table) period net

-- the design of a schedule, its latency, what its longest cycle leaves of the period, and the bits of its cells of each class
pub record IsPlanOf (name : List ℕ) (enable : Bool) (net : Net) (placing : Placing) (table : Delays) (period : ℕ) (p : Planned) : Type 0 where
  pub design : p.design ≡ design_of name enable net (slot_at (slots_by placing table period net))
  pub latency : p.latency ≡ net_latency net (slot_at (slots_by placing table period net))
  pub slack : p.slack ≡ period - setup table - greatest_time (slots_by placing table period net)
  pub cells : p.cells ≡ map (width_sum (design_cells net (slot_at (slots_by placing table period net)))) classes

-- why there is no plan: of these two causes the first that holds; or memory ran out, which may happen at any time
abbrev pub IsCause : Net → (placing : Placing) → (table : Delays) → (period : ℕ) → PlanFault → Type 0
IsCause net placing table period (PeriodTooShort n) = (n ≡ need table net) × (period < need table net)
IsCause net placing table period TooLarge = (need table net ≤ period)
    × (MAX_SIGNALS < signal_count net (slot_at (slots_by placing table period net)))
IsCause net placing table period Memory = Unit {0}

-- a plan where the period is long enough and the signals are few enough, and else why there is none
abbrev pub IsOutcome : (name : List ℕ) → (enable : Bool) → Net → (placing : Placing) → (table : Delays) → (period : ℕ) → Result Planned PlanFault → Type 0
IsOutcome name enable net placing table period (Ok p) =
    (need table net ≤ period) × (signal_count net (slot_at (slots_by placing table period net)) ≤ MAX_SIGNALS)
    × IsPlanOf name enable net placing table period p
IsOutcome name enable net placing table period (Err fault) = IsCause net placing table period fault
