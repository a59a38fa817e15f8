use Rattle.std.proofs.Common.{FitsSigned, rules}
use Rattle.std.specs.Int.{w128}
use Rattle.std.proofs.lemmas.Int.{to_z-of_z}
use Rattle.opgen_kinds.specs.Single.{root_ports, IsGoodSquareRoot, single_meaning, single_acceptance}
use Rattle.opgen_kinds.proofs.of_kind.Single.{single_lawful}
use Rattle.opgen_ports.specs.Ports.{recent_numbers, output_numbers, one_input}
use Rattle.opgen_ports.proofs.Marks.{judged_by_mark}
use Rattle.opgen_ports.proofs.Accepted.{accepted_ranges, accepted_shift}
use Rattle.opgen_kinds.proofs.single.Single.judge.Goals as goal

pub root_is_good-requires-clause-single : goal.root_is_good-requires-clause-single
root_is_good-requires-clause-single c = accepted_ranges (single_meaning c.args.self.now) (single_acceptance c.args.self.now) c.requires.accepted

pub root_is_good-requires-clause-low : goal.root_is_good-requires-clause-low
root_is_good-requires-clause-low c = (accepted_shift (single_meaning c.args.self.now) (single_acceptance c.args.self.now) (single_lawful c.args.self.now) c.requires.accepted).0

pub root_is_good-requires-clause-high : goal.root_is_good-requires-clause-high
root_is_good-requires-clause-high c = (accepted_shift (single_meaning c.args.self.now) (single_acceptance c.args.self.now) (single_lawful c.args.self.now) c.requires.accepted).1

pub returns : goal.returns
returns c =
    let fits_x : FitsSigned w128 c.recent-x.result = search rules in
    let good = rw c.recent-x.ensures.value at simp to_z-of_z at c.root_is_good.ensures in
    let r = c.args.self.now in
    let x = recent_numbers (one_input r.input) c.args.history.now 0 0 in
    let outputs = output_numbers (root_ports r.exact r) c.args.outputs.now in
    record {
      in_range = λ _. judged_by_mark r.exact (λ exact. IsGoodSquareRoot exact r x (outputs 0) (outputs 1)) c.root_is_good.result good;
      out_of_range = λ out. absurd (out tt);
    }
