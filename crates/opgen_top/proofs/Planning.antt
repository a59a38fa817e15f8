-- What holds of a circuit: its design is sound and can be written, and its ports are the specification's.
use Rattle.std.proofs.Common.{◌≡◌, ℕ, ◌≤◌, ◌^◌, Bool, List, Some, sym, ap, ◌∙◌, subst, arith}
use Rattle.std.specs.Prelude.{slice_get}
use Rattle.opgen_design.specs.Run.{AnyCyclesAreRuns, EnabledCyclesAreRuns, Words, Run, counted, data_inputs}
use Rattle.opgen_design.specs.Sound.{IsSound}
use Rattle.opgen_net.specs.Flow.{Inputs}
use Rattle.opgen_operator.specs.declared.spec.Spec.{Spec}
use Rattle.opgen_pipe.specs.declared.planning.Planned.{Planned}
use Rattle.opgen_pipe.specs.Cells.{net_delays}
use Rattle.opgen_pipe.specs.Copies.{net_latency, signal_count}
use Rattle.opgen_pipe.specs.Laws.{FollowsFlow}
use Rattle.opgen_pipe.specs.Pipelined.{design_of}
use Rattle.opgen_pipe.specs.Placed.{register_bits}
use Rattle.opgen_pipe.specs.Planned.{slots_of}
use Rattle.opgen_pipe.specs.Timed.{IsInTime, IsLeastLatency}
use Rattle.opgen_pipe.proofs.Shapes.{design-shaped}
use Rattle.opgen_pipe.proofs.Soundness.{design_sound}
use Rattle.opgen_pipe.proofs.Timed.{plan-fits, plan-has_few, plan-in_time, plan-is_least}
use Rattle.opgen_pipe.proofs.Writable.{design-writable}
use Rattle.opgen_schedule.specs.Schedule.{Fits}
use Rattle.opgen_schedule.specs.Stage.{slot_at}
use Rattle.opgen_target.specs.Delays.{Delays, setup}
use Rattle.opgen_vhdl.specs.DesignText.{text_of}
use Rattle.opgen_vhdl.specs.Spelled.{Spells}
use Rattle.opgen_write.proofs.Designs.{spells}
use Rattle.opgen_top.specs.Circuit.{IsCircuit, IsFitting, placing_of, slots_for}
use Rattle.opgen_operator.specs.Serves.{ports_for, Recovers, Serves}
use Rattle.opgen_top.proofs.Recovering.{recovers}
use Rattle.opgen_operator.specs.Valid.{IsValidSpec}
use Rattle.opgen_top.proofs.NetsFit.{net_for_fits}
use Rattle.opgen_top.proofs.Serving.{made_ports, serves}

module _ (spec : Spec) (valid : IsValidSpec spec) (table : Delays) (enable : Bool) (planned : Planned) (adders : List ℕ)
    (c : IsCircuit spec table enable planned adders) where
  pub fitting : IsFitting spec c.net
  fitting = net_for_fits spec valid table c.net c.of_spec

  pub fit : Fits c.net.nodes (net_delays table c.net) (setup table) spec.period (slot_at (slots_for spec table c.net))
  fit = plan-fits (placing_of spec) table spec.period c.net fitting.fits.valid c.long_enough

  -- its paths end in time, and no schedule of its net that fits has a smaller latency
  pub circuit_in_time : IsInTime spec.name enable c.net table spec.period (slot_at (slots_for spec table c.net)) planned
  circuit_in_time = plan-in_time (placing_of spec) table spec.period c.net fitting.fits.valid spec.name enable planned c.long_enough c.plan

  pub circuit_is_least : IsLeastLatency table spec.period c.net planned.latency
  circuit_is_least = plan-is_least (placing_of spec) table spec.period c.net fitting.fits.valid planned.latency c.long_enough c.plan.latency

  -- its registers have at most as many bits as those of the schedule of one pass
  pub circuit_has_few : register_bits c.net (slot_at (slots_for spec table c.net)) ≤ register_bits c.net (slot_at (slots_of table spec.period c.net))
  circuit_has_few = plan-has_few (placing_of spec) table spec.period c.net fitting.fits.valid c.long_enough

  few : signal_count c.net (slot_at (slots_for spec table c.net)) ≤ 2 ^ 64
  few = omega (arith, c.few_signals)

  pub circuit_sound : IsSound planned.design
  circuit_sound =
      subst IsSound (sym c.plan.design) (design_sound spec.name enable c.net (net_delays table c.net)
      (setup table) spec.period _ fitting.fits.valid fitting.named fit few)

  -- its text spells it
  pub circuit_spells : Spells (text_of planned.design) planned.design
  circuit_spells =
      let s = slot_at (slots_for spec table c.net) in
      let writable = design-writable spec.name enable c.net (net_delays table c.net)
      (setup table) spec.period s fitting.fits.valid fitting.named fit few in
      subst (λ d. Spells (text_of d) d) (sym c.plan.design)
      (spells (design_of spec.name enable c.net s) writable (design-shaped spec.name enable c.net s fitting.fits.valid))

  pub circuit_ports : planned.design.ports ≡ ports_for spec enable
  circuit_ports = ap (λ d. d.ports) c.plan.design ∙ made_ports spec c.net fitting.fits enable

  -- it serves the specification where its words follow the flow of its net
  pub circuit_serves : ((inputs : Inputs) (vs : List Words)
      → Run (design_of spec.name enable c.net (slot_at (slots_for spec table c.net))) inputs vs
      → (u : ℕ) (v : Words) → slice_get (counted enable vs vs) u ≡ Some v
      → FollowsFlow spec.name enable c.net (slot_at (slots_for spec table c.net)) (data_inputs enable (counted enable vs inputs)) u v)
      → Serves spec planned.latency enable planned.design
  circuit_serves follows =
      let whole = serves spec c.net fitting.fits enable spec.name fitting.named (net_delays table c.net) (setup table) spec.period
      (slot_at (slots_for spec table c.net)) fit few follows in
      subst (λ l. Serves spec l enable planned.design) (sym c.plan.latency) (subst (Serves spec _ enable) (sym c.plan.design) whole)

  -- and it recovers where it serves the specification
  pub circuit_recovers : EnabledCyclesAreRuns → AnyCyclesAreRuns → Serves spec planned.latency enable planned.design
      → Recovers spec planned.latency enable planned.design
  circuit_recovers enabled any served =
      let s = slot_at (slots_for spec table c.net) in
      let of_design : Serves spec (net_latency c.net s) enable (design_of spec.name enable c.net s) =
      subst (λ l. Serves spec l enable (design_of spec.name enable c.net s)) c.plan.latency (subst (Serves spec _ enable) c.plan.design served) in
      let whole = recovers enabled any spec c.net fitting.fits enable spec.name fitting.named (net_delays table c.net) (setup table) spec.period
      s fit few of_design in
      subst (λ l. Recovers spec l enable planned.design) (sym c.plan.latency) (subst (Recovers spec _ enable) (sym c.plan.design) whole)
