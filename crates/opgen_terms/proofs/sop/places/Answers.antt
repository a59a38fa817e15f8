use Rattle.std.proofs.Common.{◌≡◌, ◌≤◌, ◌^◌, ◌∙◌, ap, arith, FitsSigned, rules}
use Rattle.std.specs.Int.{w32, w64, w128}
use Rattle.std.specs.Prelude.{pos, neg_ℤ}
use Rattle.std.proofs.lemmas.Int.{ints, to_z-of_z}
use Rattle.opgen_ports.specs.Reaches.{below_zero, above_zero}
use Rattle.opgen_terms.specs.declared.sop.TheConstants.{MAX_TOTAL_BITS}
use Rattle.opgen_terms.specs.Sop.{depth, sop_reach}
use Rattle.opgen_terms.proofs.AllTerms.{depth_few, up_of_down}
use Rattle.opgen_terms.proofs.sop.places.Goals as goal

pub down-requires : goal.down-requires
down-requires c = omega (arith, c.requires.below, depth_few c.args.sop.now c.requires.shift)

pub in_places-requires-clause-below : goal.in_places-requires-clause-below
in_places-requires-clause-below c =
    let s = c.args.sop.now in
    let fits_end : FitsSigned w128 c.ends-least.result.0 = search rules in
    let fits_down : FitsSigned w32 c.down.result = search rules in
    let small : c.below_zero.result ≤ 2 ^ MAX_TOTAL_BITS = omega (arith, simp to_z-of_z at c.below_zero.ensures.bound, c.ends-least.ensures.least_small) in
    simp to_z-of_z (rw (c.down.ensures.value, c.requires.below, up_of_down (depth s)) (omega (arith, small)))

pub in_places-requires-clause-above : goal.in_places-requires-clause-above
in_places-requires-clause-above c =
    let s = c.args.sop.now in
    let fits_end : FitsSigned w128 c.ends-least.result.1 = search rules in
    let fits_down : FitsSigned w32 c.down.result = search rules in
    let small : c.above_zero.result ≤ 2 ^ MAX_TOTAL_BITS = omega (arith, simp to_z-of_z at c.above_zero.ensures.bound, c.ends-least.ensures.most_small) in
    simp to_z-of_z (rw (c.down.ensures.value, c.requires.below, up_of_down (depth s)) (omega (arith, small)))

pub returns-clause-value : goal.returns-clause-value
returns-clause-value c =
    let s = c.args.sop.now in
    let fits_least : FitsSigned w128 c.ends-least.result.0 = search rules in
    let fits_most : FitsSigned w128 c.ends-least.result.1 = search rules in
    let fits_down : FitsSigned w32 c.down.result = search rules in
    let fits_den : FitsSigned w64 s.den = omega (arith, ints, c.requires.sop.numbers.positive, c.requires.sop.numbers.small) in
    let below : c.below_zero.result ≡ (sop_reach s).below =
    (simp to_z-of_z at c.below_zero.ensures.value) ∙ ap below_zero c.ends-least.ensures.least in
    let above : c.above_zero.result ≡ (sop_reach s).above =
    (simp to_z-of_z at c.above_zero.ensures.value) ∙ ap above_zero c.ends-least.ensures.most in
    let shift : c.down.result ≡ neg_ℤ (pos (depth s)) = c.down.ensures.value ∙ ap (λ k. neg_ℤ (pos k)) c.requires.below in
    rw (below, above, shift) at simp to_z-of_z at c.in_places.ensures.value
