-- What planning a net with its sums cut to the period returns.
use Rattle.std.specs.Prelude.{ℕ, ◌≡◌, ◌<◌, Bool, List, Result, Ok, Err}
use Rattle.opgen_cuts.specs.Recipe.{cut_net}
use Rattle.opgen_net.specs.declared.net.Net.{Net}
use Rattle.opgen_pipe.specs.declared.placing.Placing.TheVariants.{Few}
use Rattle.opgen_pipe.specs.declared.planning.Planned.{Planned}
use Rattle.opgen_pipe.specs.declared.planning.PlanFault.{PlanFault}
use Rattle.opgen_pipe.specs.declared.planning.PlanFault.TheVariants.{PeriodTooShort, TooLarge, Memory}
use Rattle.opgen_pipe.specs.Cells.{need}
use Rattle.opgen_pipe.specs.Planned.{IsCause, IsOutcome}
use Rattle.opgen_target.specs.Delays.{Delays}
use Rattle.opgen_timing.specs.Nets.{net_for}

-- why there is no plan: as for the net for the period, but that a period which is too short comes with the need of the net whose sums
-- have at most 4 bits
abbrev pub IsCauseOfCut : Net → (table : Delays) → (period : ℕ) → PlanFault → Type 0
IsCauseOfCut net table period (PeriodTooShort n) = (n ≡ need table (cut_net 4 net)) × (period < need table (net_for table period net))
IsCauseOfCut net table period fault = IsCause (net_for table period net) Few table period fault

-- a plan of the net for the period with few bits of registers, or why there is none
abbrev pub IsOutcomeOfCut : (name : List ℕ) → (enable : Bool) → Net → (table : Delays) → (period : ℕ) → Result Planned PlanFault → Type 0
IsOutcomeOfCut name enable net table period (Ok p) = IsOutcome name enable (net_for table period net) Few table period (Ok p)
IsOutcomeOfCut name enable net table period (Err fault) = IsCauseOfCut net table period fault
