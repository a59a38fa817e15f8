-- The coefficients that are drawn.
use Rattle.std.proofs.Common.{◌≡◌, ℕ, zero, suc, ◌+◌, ◌*◌, ◌^◌, ◌≤◌, ◌<◌, List, [], ◌∷◌, ◌++◌, ◌-◌, length, map, refl, sym, ap, ◌∙◌, append_assoc, arith}
use Rattle.std.specs.Prelude.{ℤ, pos, negsuc, unsigned_abs, All}
use Rattle.std.proofs.lemmas.Int.{ints}
use Rattle.std.proofs.lemmas.List.Elements.{All-nil, All-cons, All-head, All-tail}
use Rattle.opgen_num.proofs.Lists.{sum-cons}
use Rattle.opgen_ports.specs.Ranges.{IsWithin}
use Rattle.opgen_ports.specs.Reaches.{above_zero, below_zero, rises, falls}
use Rattle.opgen_vec.specs.Stimulus.{drawn, next}
use Rattle.opgen_workload.specs.Filter.{coefficient, coefficients}

-- one coefficient more
pub taps_more : (all coefs later : List ℤ) (left state after : ℕ) (c : ℤ) → all ≡ coefs ++ coefficients left state → 0 < left
    → after ≡ next state → c ≡ coefficient after → later ≡ coefs ++ c ∷ [] → all ≡ later ++ coefficients (left - 1) after
taps_more all coefs later zero state after c h some e f is = absurd (omega (arith, some))
taps_more all coefs later (suc left) state after c h some e f is =
    let fewer : suc left - 1 ≡ left = omega arith in
    let one : c ≡ coefficient (next state) = f ∙ ap coefficient e in
    rw (fewer, is, e, one) (h ∙ sym (append_assoc coefs (coefficient (next state) ∷ []) (coefficients left (next state))))

pub coefficients-length : (taps state : ℕ) → length (coefficients taps state) ≡ taps
coefficients-length zero state = refl
coefficients-length (suc taps) state = ap suc (coefficients-length taps (next state))

drawn-small : (state : ℕ) → drawn 15 (next state) < 2 ^ 15
drawn-small state = omega arith

coefficient-within : (state : ℕ) → IsWithin (2 ^ 14) (coefficient (next state))
coefficient-within state = omega (arith, ints, drawn-small state)

pub coefficients-within : (taps state : ℕ) → All (IsWithin (2 ^ 14)) (coefficients taps state)
coefficients-within zero state = All-nil (IsWithin (2 ^ 14))
coefficients-within (suc taps) state =
    All-cons (IsWithin (2 ^ 14)) (coefficient (next state)) (coefficients taps (next state)) (coefficient-within state)
    (coefficients-within taps (next state))

pub wider : (cs : List ℤ) → All (IsWithin (2 ^ 14)) cs → All (IsWithin (2 ^ 30)) cs
wider cs h = λ k d within. omega (arith, h k d within)

-- coefficients within a bound rise and fall by so much together
above-least : (c : ℤ) → above_zero c ≤ unsigned_abs c
above-least (pos n) = omega arith
above-least (negsuc n) = omega arith

below-least : (c : ℤ) → below_zero c ≤ unsigned_abs c
below-least (pos n) = omega arith
below-least (negsuc n) = omega arith

pub rises-within : (cs : List ℤ) → All (IsWithin (2 ^ 14)) cs → rises cs ≤ length cs * 2 ^ 14
rises-within [] h = omega arith
rises-within (c ∷ cs) h =
    let first : rises (c ∷ cs) ≡ above_zero c + rises cs = sum-cons (above_zero c) (map above_zero cs) in
    omega (arith, first, above-least c, All-head (IsWithin (2 ^ 14)) c cs h, rises-within cs (All-tail (IsWithin (2 ^ 14)) c cs h))

pub falls-within : (cs : List ℤ) → All (IsWithin (2 ^ 14)) cs → falls cs ≤ length cs * 2 ^ 14
falls-within [] h = omega arith
falls-within (c ∷ cs) h =
    let first : falls (c ∷ cs) ≡ below_zero c + falls cs = sum-cons (below_zero c) (map below_zero cs) in
    omega (arith, first, below-least c, All-head (IsWithin (2 ^ 14)) c cs h, falls-within cs (All-tail (IsWithin (2 ^ 14)) c cs h))
