use Rattle.std.proofs.Common.{◌≤◌, ◌^◌, FitsSigned, rules, arith}
use Rattle.std.specs.Prelude.{unsigned_abs}
use Rattle.std.specs.Int.{w128}
use Rattle.std.proofs.lemmas.Int.{to_z-of_z}
use Rattle.opgen_num.proofs.BitLength.{power_order}
use Rattle.opgen_kinds.specs.Several.{several_meaning, several_acceptance}
use Rattle.opgen_ports.proofs.Accepted.{accepted_ranges}
use Rattle.opgen_ports.proofs.Magnitudes.{fits_small}
use Rattle.opgen_kinds.proofs.several.Several.judge.Goals as goal

pub multiples_are_good-requires-clause-several : goal.multiples_are_good-requires-clause-several
multiples_are_good-requires-clause-several c = accepted_ranges (several_meaning c.args.self.now) (several_acceptance c.args.self.now) c.requires.accepted

pub multiples_are_good-requires-clause-x : goal.multiples_are_good-requires-clause-x
multiples_are_good-requires-clause-x c =
    let m = c.args.self.now in
    let ranges = accepted_ranges (several_meaning m) (several_acceptance m) c.requires.accepted in
    let few : unsigned_abs c.recent-x.result ≤ 2 ^ 48 = omega
    (arith, c.recent-x.ensures.bound, power_order m.input.width 48 ranges.input.most) in
    let fits_x : FitsSigned w128 c.recent-x.result = fits_small _ (omega (arith, few)) in
    simp to_z-of_z (omega (arith, few))

pub returns-then-is_exact_or_faithful : goal.returns-then-is_exact_or_faithful
returns-then-is_exact_or_faithful c =
    let fits_x : FitsSigned w128 c.recent-x.result = search rules in
    let good = rw c.recent-x.ensures.value at simp to_z-of_z at c.multiples_are_good.ensures in
    let is = c.is_exact_or_faithful.ensures.0 c.if-is_exact_or_faithful.true in
    record { in_range = λ _. (λ yes. (is, good.0 yes), λ all. good.1 all.1); out_of_range = λ out. absurd (out tt) }
