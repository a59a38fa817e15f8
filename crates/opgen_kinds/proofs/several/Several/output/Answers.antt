use Rattle.std.proofs.Common.{◌≡◌, ◌≤◌, get_or, FitsSigned, arith}
use Rattle.std.specs.Prelude.{ℤ, pos, unsigned_abs}
use Rattle.std.specs.Int.{w64}
use Rattle.std.proofs.lemmas.Int.{ints, to_z-of_z}
use Rattle.opgen_kinds.specs.Several.{constant_format, several_meaning, several_acceptance}
use Rattle.opgen_ports.proofs.Accepted.{accepted_ranges}
use Rattle.opgen_kinds.proofs.of_kind.Several.{multiple_width}
use Rattle.opgen_kinds.proofs.several.Several.output.Goals as goal

pub returns-clause-few : goal.returns-clause-few
returns-clause-few c =
    let m = c.args.self.now in
    let ranges = accepted_ranges (several_meaning m) (several_acceptance m) c.requires.several in
    let t : ℤ = get_or m.constants c.args.place (pos 0) in
    let small : unsigned_abs t ≤ 1048575 = ranges.constants c.args.place (pos 0) c.requires.place in
    let fits : FitsSigned w64 t = omega (arith, ints) in
    let same : c.constant_format.result ≡ constant_format m.input t = simp to_z-of_z at rw c.as_slice.ensures at c.constant_format.ensures
    in
    rw same (omega (arith, multiple_width m.input t small, ranges.input.most))
