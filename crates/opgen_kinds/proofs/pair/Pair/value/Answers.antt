use Rattle.std.proofs.Common.{◌≡◌, FitsSigned, Some, ap, refl, rules}
use Rattle.std.specs.Int.{w128}
use Rattle.std.proofs.lemmas.Int.{to_z-of_z}
use Rattle.opgen_kinds.specs.Pair.{exact_quotient, quotient_format, pair_meaning, pair_acceptance}
use Rattle.opgen_kinds.proofs.of_kind.Pair.{pair_lawful}
use Rattle.opgen_ports.proofs.Accepted.{accepted_ranges, accepted_shift, accepted_width}
use Rattle.opgen_ports.specs.Ports.{recent_numbers, two_inputs}
use Rattle.opgen_kinds.proofs.pair.Pair.value.Goals as goal

pub exact_quotient-requires-clause-pair : goal.exact_quotient-requires-clause-pair
exact_quotient-requires-clause-pair c = accepted_ranges (pair_meaning c.args.self.now) (pair_acceptance c.args.self.now) c.requires.accepted

pub exact_quotient-requires-clause-low : goal.exact_quotient-requires-clause-low
exact_quotient-requires-clause-low c = (accepted_shift (pair_meaning c.args.self.now) (pair_acceptance c.args.self.now) (pair_lawful c.args.self.now) c.requires.accepted).0

pub exact_quotient-requires-clause-high : goal.exact_quotient-requires-clause-high
exact_quotient-requires-clause-high c = (accepted_shift (pair_meaning c.args.self.now) (pair_acceptance c.args.self.now) (pair_lawful c.args.self.now) c.requires.accepted).1

pub exact_quotient-requires-clause-narrow : goal.exact_quotient-requires-clause-narrow
exact_quotient-requires-clause-narrow c =
    let p = c.args.self.now in
    accepted_width (pair_meaning p) (pair_acceptance p) (quotient_format p).width c.requires.accepted refl

pub exact_quotient-requires-clause-a : goal.exact_quotient-requires-clause-a
exact_quotient-requires-clause-a c =
    let fits_a : FitsSigned w128 c.last_two-a.result.0 = search rules in
    simp to_z-of_z c.last_two-a.ensures.first_of

pub exact_quotient-requires-clause-b : goal.exact_quotient-requires-clause-b
exact_quotient-requires-clause-b c =
    let fits_b : FitsSigned w128 c.last_two-a.result.1 = search rules in
    simp to_z-of_z c.last_two-a.ensures.second_of

pub returns : goal.returns
returns c =
    let p = c.args.self.now in
    let fits_a : FitsSigned w128 c.last_two-a.result.0 = search rules in
    let fits_b : FitsSigned w128 c.last_two-a.result.1 = search rules in
    let value : c.exact_quotient.result ≡ exact_quotient p (recent_numbers (two_inputs p.a p.b) c.args.history.now 0 0)
    (recent_numbers (two_inputs p.a p.b) c.args.history.now 1 0) =
    rw (c.last_two-a.ensures.first, c.last_two-a.ensures.second) at simp to_z-of_z at c.exact_quotient.ensures in
    rw c.if-self.false (ap Some value)
