use Rattle.opgen_terms.proofs.Lawful.{accepted_sop}
use Rattle.opgen_terms.proofs.sop.Sop.output.Goals as goal

pub depth-requires-clause-sop : goal.depth-requires-clause-sop
depth-requires-clause-sop c = accepted_sop c.args.self.now c.requires
