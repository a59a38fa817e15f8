use Rattle.std.proofs.Common.{◌≡◌, ◌+◌, ◌-◌, ◌<◌, ◌≤◌, ◌∙◌, ◌^◌, ◌*◌, ◌∷◌, drop, get_or, length, sym, ap, FitsSigned, rules, arith}
use Rattle.std.specs.Prelude.{ℤ, pos, ◌+ℤ◌, unsigned_abs}
use Rattle.std.specs.Int.{w128, int_min, int_max}
use Rattle.std.proofs.lemmas.Int.{ints, to_z-of_z, int_min_is, int_max_is}
use Rattle.opgen_kinds.specs.Horner.{guarded, low_end, high_end, all_guarded}
use Rattle.opgen_ports.proofs.Magnitudes.{fits_small}
use Rattle.opgen_kinds.proofs.of_kind.Results.{ends_order, partial_small, ends_step}
use Rattle.opgen_kinds.proofs.poly.Poly.ends.Goals as goal

pub overflow_add-ends : goal.overflow_add-ends
overflow_add-ends c =
    let p = c.args.self.now in
    let low : unsigned_abs c.places.ends.low ≤ 5 * 2 ^ 50 = rw (sym c.places.invariant.low) at (partial_small p c.requires.poly c.places.at).0 in
    let fits_low : FitsSigned w128 c.places.ends.low = fits_small _ (omega (arith, low)) in
    let fits_coef : FitsSigned w128 c.guarded-coef.result = search rules in
    let fits_min : FitsSigned w128 c.min.result = search rules in
    let min : c.min.result ≡ int_min c.places.ends.low (pos 0) = simp to_z-of_z at c.min.ensures.value in
    simp to_z-of_z (fits_small _ (omega (arith, ints, c.guarded-coef.ensures.bound, low, min, int_min_is c.places.ends.low (pos 0))))

pub overflow_add-ends-in-places : goal.overflow_add-ends-in-places
overflow_add-ends-in-places c =
    let p = c.args.self.now in
    let high : unsigned_abs c.places.ends.high ≤ 5 * 2 ^ 50 = rw (sym c.places.invariant.high) at (partial_small p c.requires.poly c.places.at).1 in
    let fits_high : FitsSigned w128 c.places.ends.high = fits_small _ (omega (arith, high)) in
    let fits_coef : FitsSigned w128 c.guarded-coef.result = search rules in
    let fits_max : FitsSigned w128 c.max.result = search rules in
    let max : c.max.result ≡ int_max c.places.ends.high (pos 0) = simp to_z-of_z at c.max.ensures.value in
    simp to_z-of_z (fits_small _ (omega (arith, ints, c.guarded-coef.ensures.bound, high, max, int_max_is c.places.ends.high (pos 0))))

pub places-preserved : goal.places-preserved
places-preserved c =
    let p = c.args.self.now in
    let j = c.places.at - 1 in
    let next : j + 1 ≡ c.places.at = omega (arith, c.places-test.true) in
    let here : j < length p.coefs = omega (arith, c.places-test.true, c.places.invariant.most) in
    let t : ℤ = get_or p.coefs j (pos 0) in
    let low : unsigned_abs c.places.ends.low ≤ 5 * 2 ^ 50 = rw (sym c.places.invariant.low) at (partial_small p c.requires.poly c.places.at).0 in
    let high : unsigned_abs c.places.ends.high ≤ 5 * 2 ^ 50 = rw (sym c.places.invariant.high) at (partial_small p c.requires.poly c.places.at).1 in
    let fits_low : FitsSigned w128 c.places.ends.low = fits_small _ (omega (arith, low)) in
    let fits_high : FitsSigned w128 c.places.ends.high = fits_small _ (omega (arith, high)) in
    let fits_coef : FitsSigned w128 c.guarded-coef.result = search rules in
    let fits_min : FitsSigned w128 c.min.result = search rules in
    let fits_max : FitsSigned w128 c.max.result = search rules in
    let min : c.min.result ≡ int_min c.places.ends.low (pos 0) = simp to_z-of_z at c.min.ensures.value in
    let max : c.max.result ≡ int_max c.places.ends.high (pos 0) = simp to_z-of_z at c.max.ensures.value in
    let fits_less : FitsSigned w128 (c.guarded-coef.result +ℤ c.min.result) =
    fits_small _ (omega (arith, ints, c.guarded-coef.ensures.bound, low, min, int_min_is c.places.ends.low (pos 0))) in
    let fits_more : FitsSigned w128 (c.guarded-coef.result +ℤ c.max.result) =
    fits_small _ (omega (arith, ints, c.guarded-coef.ensures.bound, high, max, int_max_is c.places.ends.high (pos 0))) in
    let coef : c.guarded-coef.result ≡ guarded p t = c.guarded-coef.ensures.value in
    let step = ends_step p j here ∙ ap (λ k. guarded p t ∷ drop k (all_guarded p)) next in
    let least : (c.guarded-coef.result +ℤ c.min.result) ≡ low_end (drop j (all_guarded p)) =
    rw (coef, min, c.places.invariant.low) (sym (ap low_end step)) in
    let greatest : (c.guarded-coef.result +ℤ c.max.result) ≡ high_end (drop j (all_guarded p)) =
    rw (coef, max, c.places.invariant.high) (sym (ap high_end step)) in
    simp to_z-of_z (record {
      low = least;
      high = greatest;
      least = omega (arith, c.places-test.true);
      most = omega (arith, c.places.invariant.most);
    })

pub returns-clause-order : goal.returns-clause-order
returns-clause-order c = rw (c.places.invariant.low, c.places.invariant.high) (ends_order (drop c.places.at (all_guarded c.args.self.now)))

pub returns-clause-low_bound : goal.returns-clause-low_bound
returns-clause-low_bound c = rw c.places.invariant.low (partial_small c.args.self.now c.requires.poly c.places.at).0

pub returns-clause-high_bound : goal.returns-clause-high_bound
returns-clause-high_bound c = rw c.places.invariant.high (partial_small c.args.self.now c.requires.poly c.places.at).1
