use Rattle.std.proofs.Common.{rules}
use Rattle.std.specs.Prelude.{◌≢◌}
use Rattle.opgen_spec.specs.declared.fault.SpecFault.TheVariants as spec_faults
use Rattle.opgen_top.proofs.PreparingSpecs.{read_gives, fault_refused, fault_listed}
use Rattle.opgen_top.proofs.read.read_specification.Goals as goal

pub returns-in-Err : goal.returns-in-Err
returns-in-Err c =
    let named : c.in-Err.fault ≢ spec_faults.Memory = search rules in
    record {
      reads = tt;
      valid = tt;
      refused = fault_refused c.args.bytes.now c.in-Err.fault (read_gives c.in-Err.fault _ named c.in-Err.ensures.gives);
      listed = fault_listed c.in-Err.fault named;
    }
