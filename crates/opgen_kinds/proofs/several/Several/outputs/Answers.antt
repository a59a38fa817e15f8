use Rattle.opgen_kinds.specs.Several.{several_meaning, several_acceptance}
use Rattle.opgen_ports.proofs.Accepted.{accepted_ranges}
use Rattle.opgen_kinds.proofs.several.Several.outputs.Goals as goal

pub constants-requires : goal.constants-requires
constants-requires c = accepted_ranges (several_meaning c.args.self.now) (several_acceptance c.args.self.now) c.requires
