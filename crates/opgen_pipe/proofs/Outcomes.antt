-- From the parts of a plan to its outcome.
use Rattle.std.proofs.Common.{◌≡◌, ℕ, ◌+◌, List, ap, ◌∙◌}
use Rattle.opgen_net.specs.declared.net.Net.{Net}
use Rattle.opgen_schedule.specs.declared.slot.Slot.{Slot}
use Rattle.opgen_schedule.specs.Schedule.{greatest}
use Rattle.opgen_target.specs.Delays.{Delays, setup}
use Rattle.opgen_pipe.specs.declared.placing.Placing.{Placing}
use Rattle.opgen_pipe.specs.Cells.{net_delays, need}
use Rattle.opgen_pipe.specs.Placed.{slots_placed}
use Rattle.opgen_pipe.specs.Planned.{slots_by}

module _ (net : Net) (table : Delays) (period : ℕ) (delays : List ℕ) (before : ℕ) (d : delays ≡ net_delays table net)
    (b : before ≡ setup table) where
  -- the slots are those of the plan
  pub slots-are : (placing : Placing) (slots : List Slot) → slots ≡ slots_placed placing delays before period net
      → slots ≡ slots_by placing table period net
  slots-are placing slots e =
      e ∙ ap (λ ds. slots_placed placing ds before period net) d ∙ ap (λ u. slots_placed placing (net_delays table net) u period net) b

  pub need-is : greatest delays + before ≡ need table net
  need-is = ap (λ ds. greatest ds + before) d ∙ ap (λ u. greatest (net_delays table net) + u) b
