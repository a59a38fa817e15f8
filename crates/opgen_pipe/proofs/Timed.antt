-- The schedule of a plan fits, each path in it ends in time, it has the least latency, and no more bits of registers than that of one pass.
use Rattle.std.proofs.Common.{◌≡◌, ℕ, ◌≤◌, Bool, List, arith}
use Rattle.std.proofs.lemmas.List.{length-map}
use Rattle.opgen_net.specs.declared.net.Net.{Net}
use Rattle.opgen_net.specs.Valid.{IsValid, widths}
use Rattle.opgen_schedule.specs.Laws.{PathsEnd}
use Rattle.opgen_schedule.specs.Stage.{slot_at}
use Rattle.opgen_schedule.proofs.Least.{stage_is_least}
use Rattle.opgen_schedule.proofs.Paths.{paths_fit}
use Rattle.opgen_target.specs.Delays.{Delays, setup}
use Rattle.opgen_pipe.specs.declared.placing.Placing.{Placing}
use Rattle.opgen_pipe.specs.declared.planning.Planned.{Planned}
use Rattle.opgen_pipe.specs.Cells.{net_delays, node_delay, need}
use Rattle.opgen_pipe.specs.Copies.{net_latency}
use Rattle.opgen_pipe.specs.Placed.{register_bits}
use Rattle.opgen_pipe.specs.Planned.{IsPlanOf, slots_by, slots_of}
use Rattle.opgen_pipe.specs.Timed.{NetFits, IsInTime, IsLeastLatency}
use Rattle.opgen_pipe.proofs.Placings.{Serves, placed-serves}

module _ (placing : Placing) (table : Delays) (period : ℕ) (net : Net) (valid : IsValid net) where
  plan-serves : need table net ≤ period
      → Serves net (net_delays table net) (setup table) period (slots_of table period net) (slots_by placing table period net)
  plan-serves short =
      placed-serves placing net (net_delays table net) (setup table) period valid (length-map net.nodes (node_delay table (widths net.nodes)))
      short

  -- where the period is long enough, it fits
  pub plan-fits : need table net ≤ period → NetFits table period net (slot_at (slots_by placing table period net))
  plan-fits short = (plan-serves short).fits

  plan-paths : need table net ≤ period
      → PathsEnd net.nodes (net_delays table net) (setup table) period (slot_at (slots_by placing table period net))
  plan-paths short =
      paths_fit net.nodes (net_delays table net) (setup table) period (slot_at (slots_by placing table period net)) (plan-fits short)

  pub plan-in_time : (name : List ℕ) (enable : Bool) (p : Planned) → need table net ≤ period
      → IsPlanOf name enable net placing table period p
      → IsInTime name enable net table period (slot_at (slots_by placing table period net)) p
  plan-in_time name enable p short is =
      record { design = is.design; latency = is.latency; fits = plan-fits short; paths = plan-paths short }

  pub plan-is_least : (latency : ℕ) → need table net ≤ period → latency ≡ net_latency net (slot_at (slots_by placing table period net))
      → IsLeastLatency table period net latency
  plan-is_least latency short is s fits =
      omega (
        arith,
        is,
        (plan-serves short).latency,
        stage_is_least net.nodes (net_delays table net) (setup table) period valid.nodes s fits net.outputs,
      )

  pub plan-has_few : need table net ≤ period
      → register_bits net (slot_at (slots_by placing table period net)) ≤ register_bits net (slot_at (slots_of table period net))
  plan-has_few short = (plan-serves short).bits
