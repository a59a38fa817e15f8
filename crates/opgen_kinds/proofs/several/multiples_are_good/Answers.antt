use Rattle.std.proofs.Common.{ℕ, ◌<◌, ◌≤◌, IsTrue, true, false, length, get_or, FitsSigned, refl, arith}
use Rattle.std.specs.Prelude.{ℤ, pos, unsigned_abs}
use Rattle.std.proofs.lemmas.Option.{slice_get-get_or, slice_get_within}
use Rattle.std.specs.Int.{w64}
use Rattle.std.proofs.lemmas.Int.{ints, to_z-of_z}
use Rattle.opgen_ports.specs.Good.{IsGoodRatio}
use Rattle.opgen_kinds.specs.Several.{exact_multiple, multiple_ports}
use Rattle.opgen_ports.specs.Ports.{output_numbers}
use Rattle.opgen_kinds.proofs.of_kind.Several.{multiple-count, multiple-fits, multiple-judged, each_more}
use Rattle.opgen_kinds.proofs.several.multiples_are_good.Goals as goal

pub bounds-outputs-place : goal.bounds-outputs-place
bounds-outputs-place c =
    let here : c.constants.constant-index < length c.args.several.now.constants = rw c.as_slice-constant-items.ensures at
    c.constants-test.true in
    omega (arith, c.constants.invariant.place, multiple-count c.args.several.now c.args.outputs.now c.requires.outputs)

pub multiple_is_good-requires-clause-y : goal.multiple_is_good-requires-clause-y
multiple_is_good-requires-clause-y c =
    let constants = c.args.several.now.constants in
    let same = c.as_slice-constant-items.ensures in
    let here : c.constants.constant-index < length constants = rw same at c.constants-test.true in
    let constant : ℤ = get_or constants c.constants.constant-index (pos 0) in
    let small : unsigned_abs constant ≤ 1048575 = c.requires.several.constants c.constants.constant-index (pos 0) here in
    let fits_constant : FitsSigned w64 constant = omega (arith, ints) in
    rw (c.constants.invariant.place, same) (simp to_z-of_z (multiple-fits c.args.several.now c.args.outputs.now c.constants.constant-index
    (pos 0) c.requires.outputs here))

pub returns-then-not-multiple_is_good : goal.returns-then-not-multiple_is_good
returns-then-not-multiple_is_good c =
    let m = c.args.several.now in
    let same = c.as_slice-constant-items.ensures in
    let i = c.constants.constant-index in
    let here : i < length m.constants = rw same at c.constants-test.true in
    let small : unsigned_abs (get_or m.constants i (pos 0)) ≤ 1048575 = c.requires.several.constants i (pos 0) here in
    let fits_constant : FitsSigned w64 (get_or m.constants i (pos 0)) = omega (arith, ints) in
    let fits_x = c.ranges.x in
    let judged = multiple-judged m c.args.outputs.now i (pos 0) c.args.mode false c.args.x here
    (simp to_z-of_z at rw (same, c.constants.invariant.place) at c.if-not-multiple_is_good.ensures) in
    (λ (none : IsTrue false). cc, λ all. judged.1 (all i (get_or m.constants i (pos 0)) (slice_get-get_or m.constants i (pos 0) here)))

pub constants-preserved : goal.constants-preserved
constants-preserved c =
    let m = c.args.several.now in
    let same = c.as_slice-constant-items.ensures in
    let i = c.constants.constant-index in
    let here : i < length m.constants = rw same at c.constants-test.true in
    let small : unsigned_abs (get_or m.constants i (pos 0)) ≤ 1048575 = c.requires.several.constants i (pos 0) here in
    let fits_constant : FitsSigned w64 (get_or m.constants i (pos 0)) = omega (arith, ints) in
    let fits_x = c.ranges.x in
    let judged = multiple-judged m c.args.outputs.now i (pos 0) c.args.mode true c.args.x here
    (simp to_z-of_z at rw (same, c.constants.invariant.place) at c.if-not-multiple_is_good.ensures) in
    record {
      place = omega (arith, c.constants.invariant.place);
      good = simp to_z-of_z (each_more (λ (k : ℕ) (t : ℤ). IsGoodRatio c.args.mode (exact_multiple t c.args.x) (output_numbers
          (multiple_ports m) c.args.outputs.now k)) m.constants i
          (simp to_z-of_z at c.constants.invariant.good) (judged.0 refl));
    }

pub returns : goal.returns
returns c =
    let m = c.args.several.now in
    let fits_x = c.ranges.x in
    let done : length m.constants ≤ c.constants.constant-index = rw c.as_slice-constant-items.ensures at c.constants-test.false in
    let good = simp to_z-of_z at c.constants.invariant.good in
    (λ _ k t got. good k t (omega (arith, slice_get_within m.constants k t got)) got, λ _. refl)
