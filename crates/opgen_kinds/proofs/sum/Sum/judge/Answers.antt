use Rattle.std.proofs.Common.{refl, arith}
use Rattle.opgen_kinds.specs.Sum.{sum_need, sum_meaning, fir_acceptance}
use Rattle.opgen_kinds.proofs.of_kind.Sum.{fir_lawful}
use Rattle.opgen_ports.proofs.Accepted.{accepted_ranges, accepted_shift, accepted_room, accepted_width}
use Rattle.opgen_ports.proofs.Cycles.{only_word}
use Rattle.opgen_kinds.proofs.sum.Sum.judge.Goals as goal

pub bounds-outputs-0 : goal.bounds-outputs-0
bounds-outputs-0 c = (only_word _ c.args.outputs.now c.requires.outputs).0

pub sum_is_good-requires-clause-sum : goal.sum_is_good-requires-clause-sum
sum_is_good-requires-clause-sum c = accepted_ranges (sum_meaning c.args.self.now) (fir_acceptance c.args.self.now) c.requires.accepted

pub sum_is_good-requires-clause-low : goal.sum_is_good-requires-clause-low
sum_is_good-requires-clause-low c = (accepted_shift (sum_meaning c.args.self.now) (fir_acceptance c.args.self.now) (fir_lawful c.args.self.now) c.requires.accepted).0

pub sum_is_good-requires-clause-high : goal.sum_is_good-requires-clause-high
sum_is_good-requires-clause-high c = (accepted_shift (sum_meaning c.args.self.now) (fir_acceptance c.args.self.now) (fir_lawful c.args.self.now) c.requires.accepted).1

pub sum_is_good-requires-clause-room : goal.sum_is_good-requires-clause-room
sum_is_good-requires-clause-room c = accepted_room (sum_meaning c.args.self.now) (fir_acceptance c.args.self.now) (fir_lawful c.args.self.now) c.requires.accepted

pub sum_is_good-requires-clause-narrow : goal.sum_is_good-requires-clause-narrow
sum_is_good-requires-clause-narrow c =
    let s = c.args.self.now in
    omega (arith, accepted_width (sum_meaning s) (fir_acceptance s) (sum_need s) c.requires.accepted refl)

pub sum_is_good-requires-clause-y : goal.sum_is_good-requires-clause-y
sum_is_good-requires-clause-y c = (only_word _ c.args.outputs.now c.requires.outputs).1

pub returns : goal.returns
returns c = record { in_range = λ _. c.sum_is_good.ensures; out_of_range = λ out. absurd (out tt) }
