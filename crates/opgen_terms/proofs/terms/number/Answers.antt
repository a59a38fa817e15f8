use Rattle.std.proofs.Common.{FitsSigned, rules, arith}
use Rattle.std.specs.Int.{w64, w128}
use Rattle.std.proofs.lemmas.Int.{ints, to_z-of_z}
use Rattle.opgen_terms.proofs.EachTerm.{times_place, offset_place}
use Rattle.opgen_terms.proofs.terms.number.Goals as goal

pub returns-then-place-first-2 : goal.returns-then-place-first-2
returns-then-place-first-2 c =
    let s = c.args.sop.now in
    let fits : FitsSigned w128 c.times_number.result = search rules in
    let here = times_place s c.args.place c.get-then-place-first-2.result.now (omega (arith, c.len-first.ensures, c.if-place-first.false)) (omega (arith, c.len-first.ensures, c.len.ensures, c.if-place-first-2.true))
    (rw c.len-first.ensures at c.get-then-place-first-2.ensures) in
    simp to_z-of_z (rw here c.times_number.ensures)

pub returns-else-place-first-2 : goal.returns-else-place-first-2
returns-else-place-first-2 c =
    let s = c.args.sop.now in
    let fits_offset : FitsSigned w64 s.offset = omega (arith, ints, c.requires.sop.numbers.offset) in
    let fits_from : FitsSigned w128 c.from.result = search rules in
    let here = offset_place s c.args.place (omega (arith, c.len-first.ensures, c.if-place-first.false))
    (omega (arith, c.len-first.ensures, c.len.ensures, c.if-place-first-2.false)) in
    simp to_z-of_z (rw here (simp to_z-of_z at c.from.ensures))
