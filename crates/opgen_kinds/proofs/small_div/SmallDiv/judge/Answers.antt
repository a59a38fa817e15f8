use Rattle.std.proofs.Common.{FitsSigned, rules}
use Rattle.std.specs.Int.{w128}
use Rattle.std.proofs.lemmas.Int.{to_z-of_z}
use Rattle.opgen_kinds.specs.SmallDiv.{small_ports, IsGoodSmallQuotient, small_meaning, small_acceptance}
use Rattle.opgen_ports.specs.Ports.{recent_numbers, output_numbers, one_input}
use Rattle.opgen_ports.proofs.Marks.{judged_by_mark}
use Rattle.opgen_ports.proofs.Accepted.{accepted_ranges}
use Rattle.opgen_kinds.proofs.small_div.SmallDiv.judge.Goals as goal

pub small_quotient_is_good-requires-clause-small : goal.small_quotient_is_good-requires-clause-small
small_quotient_is_good-requires-clause-small c = accepted_ranges (small_meaning c.args.self.now) (small_acceptance c.args.self.now) c.requires.accepted

pub small_quotient_is_good-requires-clause-x : goal.small_quotient_is_good-requires-clause-x
small_quotient_is_good-requires-clause-x c =
    let fits_x : FitsSigned w128 c.recent-x.result = search rules in
    simp to_z-of_z c.recent-x.ensures.of

pub returns : goal.returns
returns c =
    let fits_x : FitsSigned w128 c.recent-x.result = search rules in
    let good = rw c.recent-x.ensures.value at simp to_z-of_z at c.small_quotient_is_good.ensures in
    let s = c.args.self.now in
    let x = recent_numbers (one_input s.input) c.args.history.now 0 0 in
    let outputs = output_numbers (small_ports s.exact s) c.args.outputs.now in
    record {
      in_range = λ _. judged_by_mark s.exact (λ exact. IsGoodSmallQuotient exact s x (outputs 0) (outputs 1))
          c.small_quotient_is_good.result good;
      out_of_range = λ out. absurd (out tt);
    }
