-- How the stored circuit was made, its timing, and its texts byte for byte.
use Rattle.std.specs.Prelude.{ℕ, ◌≡◌, ◌≤◌, Bool, List, Ok}
use Rattle.opgen_design.specs.declared.design.Design.{Design}
use Rattle.opgen_net.specs.Valid.{IsValid}
use Rattle.opgen_operator.specs.declared.spec.Spec.{Spec}
use Rattle.opgen_pipe.specs.declared.planning.Planned.{Planned}
use Rattle.opgen_pipe.specs.Placed.{register_bits}
use Rattle.opgen_pipe.specs.Planned.{slots_of}
use Rattle.opgen_pipe.specs.Timed.{IsInTime, IsLeastLatency}
use Rattle.opgen_report.specs.Report.{report}
use Rattle.opgen_schedule.specs.Stage.{slot_at}
use Rattle.opgen_document.specs.Document.{tree}
use Rattle.opgen_spec.specs.Faults.{read}
use Rattle.opgen_target.specs.Delays.{Delays}
use Rattle.opgen_vhdl.specs.DesignText.{text_of}
use Rattle.opgen_top.specs.Circuit.{IsCircuit, slots_for}
use Rattle.opgen_top.specs.Targets.{Device, IsTableOf}

-- of the bytes of a file and the specification in it, of a design at a latency, and of its VHDL and its report
pub record Provenance (enable : Bool) (devices : List Device) (bytes : List ℕ) (spec : Spec) (design : Design) (latency : ℕ)
    (vhdl report_bytes : List ℕ) : Type 0 where
  -- First: the document has no fault. A target has the name that the specification asks for and takes its delay lines, and the
  -- design and the latency are those of the circuit for that target's table and the period.
  pub accepted : read (tree bytes) ≡ Ok spec
  pub table : Delays
  pub of_target : IsTableOf spec devices table
  pub planned : Planned
  pub adders : List ℕ
  pub circuit : IsCircuit spec table enable planned adders
  pub design_is : design ≡ planned.design
  pub latency_is : latency ≡ planned.latency
  -- Second: the texts are those of the design and of the circuit, to the byte.
  pub vhdl_is : vhdl ≡ text_of design
  pub report_is : report_bytes ≡ report spec planned adders
  -- Third: the cells of the circuit's net are what their classes say, and under that table no path of them exceeds the period:
  -- each path of cells within a cycle ends the setup before the end of the cycle.
  pub cells : IsValid circuit.net
  pub in_time : IsInTime spec.name enable circuit.net table spec.period (slot_at (slots_for spec table circuit.net)) planned
  -- Fourth: no schedule of the circuit's net that fits the period has a smaller latency, and the registers have at most as many bits
  -- as those of the schedule of one pass over that net.
  pub least : IsLeastLatency table spec.period circuit.net latency
  pub few : register_bits circuit.net (slot_at (slots_for spec table circuit.net))
      ≤ register_bits circuit.net (slot_at (slots_of table spec.period circuit.net))
