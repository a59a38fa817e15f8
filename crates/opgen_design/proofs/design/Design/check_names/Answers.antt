use Rattle.opgen_design.proofs.NameWalk.{names-fault, names-ok}
use Rattle.opgen_design.proofs.design.Design.check_names.Goals as goal

pub returns-clause-fault : goal.returns-clause-fault
returns-clause-fault c = names-fault c.args.self.now c.in_ok-declared_twice.field-0 c.in_ok-declared_twice.ensures c.failing.result
    c.failing.ensures

pub returns-clause-holds : goal.returns-clause-holds
returns-clause-holds c = names-ok c.args.self.now c.in_ok-declared_twice.field-0 c.in_ok-declared_twice.ensures c.failing.result
    c.failing.ensures
