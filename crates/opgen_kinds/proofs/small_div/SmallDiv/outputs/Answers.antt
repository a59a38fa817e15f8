use Rattle.opgen_kinds.specs.SmallDiv.{small_meaning, small_acceptance}
use Rattle.opgen_ports.proofs.Accepted.{accepted_ranges}
use Rattle.opgen_kinds.proofs.small_div.SmallDiv.outputs.Goals as goal

pub remainder-requires : goal.remainder-requires
remainder-requires c = accepted_ranges (small_meaning c.args.self.now) (small_acceptance c.args.self.now) c.requires
