use Rattle.opgen_pipe.proofs.Soundness.{design_sound}
use Rattle.opgen_pipe.specs.Pipelined.{design_of}
use Rattle.opgen_part_laws.proofs.plans.design_runs.Goals as goal

pub returns : goal.returns
returns c = λ name enable net delays setup period s valid named fits few inputs are.
    let r = c.one_run.ensures (design_of name enable net s)
    (design_sound name enable net delays setup period s valid named fits few) inputs are in
    (r.0, r.1.run)
