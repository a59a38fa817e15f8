-- The circuit of a specification, for a table of delays.
use Rattle.std.specs.Prelude.{ℕ, ◌≡◌, ◌≤◌, Bool, List, nat_lt, if◌then◌else◌}
use Rattle.opgen_cuts.specs.Recipe.{cut_net}
use Rattle.opgen_design.specs.declared.design.TheConstants.{MAX_SIGNALS}
use Rattle.opgen_net.specs.declared.net.Net.{Net}
use Rattle.opgen_net.specs.Named.{IsNamed}
use Rattle.opgen_operator.specs.declared.spec.Spec.{Spec}
use Rattle.opgen_operator.specs.Fits.{FitsSpec}
use Rattle.opgen_operator.specs.Serves.{Recovers, Serves}
use Rattle.opgen_operator.specs.Valid.{IsValidSpec}
use Rattle.opgen_pipe.specs.declared.placing.Placing.{Placing}
use Rattle.opgen_pipe.specs.declared.placing.Placing.TheVariants.{Earliest, Few}
use Rattle.opgen_pipe.specs.declared.planning.Planned.{Planned}
use Rattle.opgen_pipe.specs.Cells.{need}
use Rattle.opgen_pipe.specs.Copies.{signal_count}
use Rattle.opgen_pipe.specs.Planned.{IsPlanOf, slots_by}
use Rattle.opgen_schedule.specs.declared.slot.Slot.{Slot}
use Rattle.opgen_schedule.specs.Stage.{slot_at}
use Rattle.opgen_target.specs.Delays.{Delays}
use Rattle.opgen_timing.specs.Nets.{net_for}
use Rattle.opgen_top.specs.Kinds.{AreAddersOf, IsNetOf}

-- how the nodes of a circuit are placed: each as early as it may stand, in version 4 with few bits of registers
abbrev pub placing_of : Spec → Placing
placing_of spec = if nat_lt spec.version 4 then Earliest else Few

-- the slots of a net for a specification's period and a table
abbrev pub slots_for : Spec → Delays → Net → List Slot
slots_for spec table net = slots_by (placing_of spec) table spec.period net

-- the signals of the design that a net has for them
abbrev pub signals_of : Spec → Delays → Net → ℕ
signals_of spec table net = signal_count net (slot_at (slots_for spec table net))

-- what a circuit for a table is made of: the net of the specification, in version 4 with its sums cut to the period
abbrev pub made_net : Spec → Delays → Net → Net
made_net spec table net = if nat_lt spec.version 4 then net else net_for table spec.period net

-- the period that a net needs: that of its slowest node, in version 4 with sums of at most 4 bits
abbrev pub need_of : Spec → Delays → Net → ℕ
need_of spec table net = need table (if nat_lt spec.version 4 then net else cut_net 4 net)

-- The net for a table, made of that of the specification.
pub record IsNetFor (spec : Spec) (table : Delays) (net : Net) : Type 0 where
  pub own : Net
  pub is_own : IsNetOf spec own
  pub made : net ≡ made_net spec table own

-- The circuit for a table: the plan of the specification's net for its period, which is long enough, with no more signals
-- than a design may have. Beside it stand the numbers of its adder graph, if its kind has one.
pub record IsCircuit (spec : Spec) (table : Delays) (enable : Bool) (planned : Planned) (adders : List ℕ) : Type 0 where
  pub net : Net
  pub of_spec : IsNetFor spec table net
  pub are_adders : AreAddersOf spec adders
  pub long_enough : need table net ≤ spec.period
  pub few_signals : signals_of spec table net ≤ MAX_SIGNALS
  pub plan : IsPlanOf spec.name enable net (placing_of spec) table spec.period planned

-- The net of a valid specification fits it, and a design may have the specification's name and its ports'.
pub record IsFitting (spec : Spec) (net : Net) : Type 0 where
  pub fits : FitsSpec spec net
  pub named : IsNamed spec.name net

-- so does the net that is made of it for a table
abbrev pub NetsFit : Type 0
NetsFit = (spec : Spec) → IsValidSpec spec → (net : Net) → IsNetOf spec net
    → IsFitting spec net × ((table : Delays) → IsFitting spec (made_net spec table net))

-- Every circuit of a valid specification serves it, at its latency. That there is one is a clause of the calls that make it.
abbrev pub CircuitsServe : Type 0
CircuitsServe = (spec : Spec) → IsValidSpec spec → (table : Delays) (enable : Bool) (planned : Planned) (adders : List ℕ)
    → IsCircuit spec table enable planned adders → Serves spec planned.latency enable planned.design

-- every circuit of a valid specification, which is sound too, recovers from any words in its registers
abbrev pub CircuitsRecover : Type 0
CircuitsRecover = (spec : Spec) → IsValidSpec spec → (table : Delays) (enable : Bool) (planned : Planned) (adders : List ℕ)
    → IsCircuit spec table enable planned adders → Recovers spec planned.latency enable planned.design
