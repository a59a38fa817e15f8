use Rattle.std.proofs.Common.{FitsSigned, rules}
use Rattle.std.specs.Int.{w128}
use Rattle.std.proofs.lemmas.Int.{to_z-of_z}
use Rattle.opgen_kinds.specs.Poly.{poly_meaning, poly_acceptance}
use Rattle.opgen_ports.proofs.Accepted.{accepted_ranges}
use Rattle.opgen_ports.proofs.Cycles.{only_word}
use Rattle.opgen_kinds.proofs.poly.Poly.judge.Goals as goal

pub bounds-outputs-0 : goal.bounds-outputs-0
bounds-outputs-0 c = (only_word _ c.args.outputs.now c.requires.outputs).0

pub poly_is_good-requires-clause-poly : goal.poly_is_good-requires-clause-poly
poly_is_good-requires-clause-poly c = accepted_ranges (poly_meaning c.args.self.now) (poly_acceptance c.args.self.now) c.requires.accepted

pub poly_is_good-requires-clause-x : goal.poly_is_good-requires-clause-x
poly_is_good-requires-clause-x c =
    let fits_x : FitsSigned w128 c.recent-x.result = search rules in
    simp to_z-of_z c.recent-x.ensures.of

pub poly_is_good-requires-clause-y : goal.poly_is_good-requires-clause-y
poly_is_good-requires-clause-y c = (only_word _ c.args.outputs.now c.requires.outputs).1

pub returns-then-is_exact_or_faithful : goal.returns-then-is_exact_or_faithful
returns-then-is_exact_or_faithful c =
    let fits_x : FitsSigned w128 c.recent-x.result = search rules in
    let good = rw c.recent-x.ensures.value at simp to_z-of_z at c.poly_is_good.ensures in
    let is = c.is_exact_or_faithful.ensures.0 c.if-is_exact_or_faithful.true in
    record { in_range = λ _. (λ yes. (is, good.0 yes), λ all. good.1 all.1); out_of_range = λ out. absurd (out tt) }
