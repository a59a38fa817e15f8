use Rattle.opgen_kinds.specs.Sum.{sum_meaning, fir_acceptance}
use Rattle.opgen_kinds.proofs.of_kind.Sum.{fir_lawful}
use Rattle.opgen_ports.proofs.Accepted.{accepted_room}
use Rattle.opgen_kinds.proofs.sum.Sum.value.Goals as goal

pub exact_sum-requires-clause-room : goal.exact_sum-requires-clause-room
exact_sum-requires-clause-room c = accepted_room (sum_meaning c.args.self.now) (fir_acceptance c.args.self.now) (fir_lawful c.args.self.now) c.requires.accepted
