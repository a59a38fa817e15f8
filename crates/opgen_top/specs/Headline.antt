-- What status 0 of `generate` means: what is promised of the stored circuit, and how the circuit was made.
use Rattle.std.specs.Prelude.{ℕ, Bool, List, Option}
use Rattle.opgen_io.specs.Files.{Files}
use Rattle.opgen_top.specs.Promise.{Promise}
use Rattle.opgen_top.specs.Provenance.{Provenance}
use Rattle.opgen_top.specs.Targets.{Device}

-- The promise is read by itself. The provenance ties its design to this specification, a target's table and no number of workers.
pub record Headline (file : List ℕ) (enable : Bool) (devices : List Device) (files : Files) (files_after : Option Files)
    (printed_before printed_after : Option (List ℕ)) : Type 0 where
  pub promise : Promise file enable files files_after printed_before printed_after
  pub provenance : Provenance enable devices promise.bytes promise.spec promise.design promise.latency promise.vhdl promise.report
