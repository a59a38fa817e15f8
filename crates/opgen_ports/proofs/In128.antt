-- What stands in 128 bits.
use Rattle.std.proofs.Common.{◌^◌, ◌≤◌, arith, ℕ, ◌+◌, ◌*◌, zero, suc, List, [], ◌∷◌, length}
use Rattle.std.proofs.lemmas.Int.{ints}
use Rattle.std.specs.Prelude.{ℤ, unsigned_abs, pos, ◌*ℤ◌, negsuc, ◌≤ℤ◌, All}
use Rattle.opgen_num.proofs.BitLength.{power_order}
use Rattle.opgen_num.specs.declared.format.Format.{Format}
use Rattle.opgen_ports.specs.In128.{IsIn128}
use Rattle.opgen_ports.specs.Ranges.{IsWithin}
use Rattle.opgen_ports.specs.Ports.{Recent, weighted_from}
use Rattle.opgen_ports.specs.Reaches.{places_up, up, places_down, down}
use Rattle.opgen_ports.specs.Spans.{IsOf}
use Rattle.opgen_ports.proofs.Bounds.{few_down, products, few_up}
use Rattle.opgen_ports.proofs.Magnitudes.{holds_within, raised_within, product_within}
use Rattle.opgen_ports.proofs.WeightedSums.{bound_step}

pub small_in128 : (n : ℤ) → unsigned_abs n ≤ 2 ^ 126 → IsIn128 n
small_in128 n h = (omega (arith, ints), omega (arith, ints))

-- a number of an input
pub input_small : (f : Format) (n : ℤ) → IsOf f n → unsigned_abs n ≤ 2 ^ f.width
input_small f n of = holds_within f.signed f.width n of

-- a number of some bits that is shifted up, and one of the denominator
pub raised_in128 : (n : ℤ) (i : ℕ) (s : ℤ) → unsigned_abs n ≤ 2 ^ i → i + places_up s ≤ 126 → IsIn128 (n *ℤ pos (up s))
raised_in128 n i s small few =
    let bound = raised_within n i (places_up s) (places_up s) small (omega arith) in
    small_in128 (n *ℤ pos (up s)) (omega (arith, bound, power_order (i + places_up s) 126 few))

pub lowered_in128 : (n s : ℤ) → unsigned_abs n ≤ 2 ^ 30 → negsuc 47 ≤ℤ s → IsIn128 (n *ℤ pos (down s))
lowered_in128 n s small low =
    let bound : unsigned_abs (n *ℤ pos (down s)) ≤ 2 ^ 78 = raised_within n 30 (places_down s) 48 small (few_down 47 s low) in
    small_in128 (n *ℤ pos (down s)) (omega (arith, bound))

pub units_in128 : (s : ℤ) → negsuc 47 ≤ℤ s → IsIn128 (pos (down s))
units_in128 s low =
    let bound : down s ≤ 2 ^ 48 = power_order (places_down s) 48 (few_down 47 s low) in
    small_in128 (pos (down s)) (omega (arith, bound))

pub whole_in128 : (n : ℕ) (s : ℤ) → n ≤ 2 ^ 48 → s ≤ℤ pos 48 → IsIn128 (pos (n * up s))
whole_in128 n s small high =
    let bound : n * up s ≤ 2 ^ 96 = products n (up s) 48 48 small (power_order (places_up s) 48 (few_up 48 s high)) in
    small_in128 (pos (n * up s)) (omega (arith, bound))

-- inputs times coefficients
pub weighted_small : (w ago : ℕ) (coefs : List ℤ) (x : Recent) → All (IsWithin (2 ^ 30)) coefs → ((k : ℕ) → unsigned_abs (x k) ≤ 2 ^ w)
    → unsigned_abs (weighted_from ago coefs x) ≤ length coefs * 2 ^ (w + 30)
weighted_small w ago [] x few small = omega arith
weighted_small w ago (c ∷ cs) x few small =
    let term : unsigned_abs (x ago *ℤ c) ≤ 2 ^ (w + 30) = product_within (x ago) c w 30 (small ago) (few zero c (omega arith)) in
    let rest = weighted_small w (ago + 1) cs x (λ k d h. few (suc k) d (omega arith)) small in
    let step = bound_step (weighted_from (ago + 1) cs x) (x ago *ℤ c) (length cs) (2 ^ (w + 30)) rest term in
    omega (arith, ints, step)
