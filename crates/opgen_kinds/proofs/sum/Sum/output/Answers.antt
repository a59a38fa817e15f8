use Rattle.std.proofs.Common.{refl, arith}
use Rattle.opgen_kinds.specs.Sum.{sum_need, sum_meaning, fir_acceptance}
use Rattle.opgen_kinds.proofs.of_kind.Sum.{fir_lawful}
use Rattle.opgen_ports.proofs.Accepted.{accepted_room, accepted_width}
use Rattle.opgen_kinds.proofs.sum.Sum.output.Goals as goal

pub sum_format-requires-clause-room : goal.sum_format-requires-clause-room
sum_format-requires-clause-room c = accepted_room (sum_meaning c.args.self.now) (fir_acceptance c.args.self.now) (fir_lawful c.args.self.now) c.requires

pub returns-clause-few : goal.returns-clause-few
returns-clause-few c =
    rw c.sum_format.ensures (omega (arith, accepted_width (sum_meaning c.args.self.now) (fir_acceptance c.args.self.now) (sum_need c.args.self.now) c.requires refl))
