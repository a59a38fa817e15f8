use Rattle.opgen_operator.specs.Valid.{IsValidSpec}
use Rattle.opgen_workload.specs.Filter.{workload_spec}
use Rattle.opgen_workload.proofs.Valid.{workload_valid}
use Rattle.opgen_workload.proofs.filter.workload_spec.Goals as goal

pub returns-clause-valid : goal.returns-clause-valid
returns-clause-valid c =
    let valid : IsValidSpec (workload_spec c.args.n) = workload_valid c.args.n c.requires.0 c.requires.1 in
    rw (c.in_ok-from_str.ensures, c.in_ok-workload_sum.ensures, c.in_ok-from_str-2.ensures, c.new.ensures) valid
