use Rattle.std.proofs.Common.{FitsSigned, refl, rules}
use Rattle.std.specs.Int.{w128}
use Rattle.std.proofs.lemmas.Int.{to_z-of_z}
use Rattle.opgen_kinds.specs.Pair.{quotient_format, quotient_ports, IsGoodQuotient, pair_meaning, pair_acceptance}
use Rattle.opgen_kinds.proofs.of_kind.Pair.{pair_lawful}
use Rattle.opgen_ports.proofs.Accepted.{accepted_ranges, accepted_shift, accepted_width}
use Rattle.opgen_ports.specs.Ports.{recent_numbers, output_numbers, two_inputs}
use Rattle.opgen_ports.proofs.Marks.{judged_by_mark}
use Rattle.opgen_ports.proofs.Roundings.{zero_if}
use Rattle.opgen_kinds.proofs.pair.Pair.judge.Goals as goal

pub quotient_is_good-requires-clause-pair : goal.quotient_is_good-requires-clause-pair
quotient_is_good-requires-clause-pair c = accepted_ranges (pair_meaning c.args.self.now) (pair_acceptance c.args.self.now) c.requires.accepted

pub quotient_is_good-requires-clause-low : goal.quotient_is_good-requires-clause-low
quotient_is_good-requires-clause-low c = (accepted_shift (pair_meaning c.args.self.now) (pair_acceptance c.args.self.now) (pair_lawful c.args.self.now) c.requires.accepted).0

pub quotient_is_good-requires-clause-high : goal.quotient_is_good-requires-clause-high
quotient_is_good-requires-clause-high c = (accepted_shift (pair_meaning c.args.self.now) (pair_acceptance c.args.self.now) (pair_lawful c.args.self.now) c.requires.accepted).1

pub quotient_is_good-requires-clause-narrow : goal.quotient_is_good-requires-clause-narrow
quotient_is_good-requires-clause-narrow c =
    let p = c.args.self.now in
    accepted_width (pair_meaning p) (pair_acceptance p) (quotient_format p).width c.requires.accepted refl

pub quotient_is_good-requires-clause-a : goal.quotient_is_good-requires-clause-a
quotient_is_good-requires-clause-a c =
    let fits_a : FitsSigned w128 c.last_two-a.result.0 = search rules in
    simp to_z-of_z c.last_two-a.ensures.first_of

pub quotient_is_good-requires-clause-b : goal.quotient_is_good-requires-clause-b
quotient_is_good-requires-clause-b c =
    let fits_b : FitsSigned w128 c.last_two-a.result.1 = search rules in
    simp to_z-of_z c.last_two-a.ensures.second_of

pub returns : goal.returns
returns c =
    let fits_a : FitsSigned w128 c.last_two-a.result.0 = search rules in
    let fits_b : FitsSigned w128 c.last_two-a.result.1 = search rules in
    let good = rw (c.last_two-a.ensures.first, c.last_two-a.ensures.second) at simp to_z-of_z at c.quotient_is_good.ensures.in_range in
    let out = rw c.last_two-a.ensures.second at simp to_z-of_z at c.quotient_is_good.ensures.out_of_range in
    let p = c.args.self.now in
    let numbers = recent_numbers (two_inputs p.a p.b) c.args.history.now in
    let outputs = output_numbers (quotient_ports p.exact p) c.args.outputs.now in
    record {
      in_range = λ some. judged_by_mark p.exact (λ exact. IsGoodQuotient exact p (numbers 0 0) (numbers 1 0) (outputs 0) (outputs 1))
          c.quotient_is_good.result (good some);
      out_of_range = λ none. out (zero_if _ none);
    }
