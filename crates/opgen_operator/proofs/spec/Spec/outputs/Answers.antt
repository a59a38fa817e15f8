use Rattle.opgen_operator.proofs.Accepted.{accepted}
use Rattle.opgen_operator.proofs.spec.Spec.outputs.Goals as goal

pub outputs-requires : goal.outputs-requires
outputs-requires c = accepted c.args.self.now c.requires
