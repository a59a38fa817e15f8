use Rattle.std.proofs.Common.{ℕ, suc, ◌≡◌, ◌+◌, ◌^◌, ◌<◌, ◌≤◌, ◌∙◌, true, false, List, length, drop, get_or, FitsSigned, refl, ap, sym, add-one, drop-cons, arith}
use Rattle.std.specs.Prelude.{ℤ, pos, negsuc, int_lt, unsigned_abs}
use Rattle.std.specs.Int.{w64}
use Rattle.std.proofs.lemmas.Bool.{ltb-true}
use Rattle.std.proofs.lemmas.Int.{ints, to_z-of_z}
use Rattle.opgen_ports.specs.Reaches.{above_zero, below_zero, rises, falls}
use Rattle.opgen_ports.proofs.Reached.{rises-cons, falls-cons}
use Rattle.opgen_ports.proofs.reach.sides.Goals.{then-coef-lt0, else-coef-lt0}
use Rattle.opgen_ports.proofs.reach.sides.Goals as goal

-- one coefficient more
falls-next : (coefs : List ℤ) (i : ℕ) → i < length coefs
    → falls (drop i coefs) ≡ below_zero (get_or coefs i (pos 0)) + falls (drop (i + 1) coefs)
falls-next coefs i here =
    ap falls (drop-cons coefs i (pos 0) here) ∙ falls-cons (get_or coefs i (pos 0)) (drop (suc i) coefs)
    ∙ ap (λ (k : ℕ). below_zero (get_or coefs i (pos 0)) + falls (drop k coefs)) (sym (add-one i))

rises-next : (coefs : List ℤ) (i : ℕ) → i < length coefs
    → rises (drop i coefs) ≡ above_zero (get_or coefs i (pos 0)) + rises (drop (i + 1) coefs)
rises-next coefs i here =
    ap rises (drop-cons coefs i (pos 0) here) ∙ rises-cons (get_or coefs i (pos 0)) (drop (suc i) coefs)
    ∙ ap (λ (k : ℕ). above_zero (get_or coefs i (pos 0)) + rises (drop k coefs)) (sym (add-one i))

size_below : (n : ℤ) → int_lt n (pos 0) ≡ true → (below_zero n ≡ unsigned_abs n) × (above_zero n ≡ 0)
size_below (pos n) h = absurd (omega (arith, ltb-true n 0 h))
size_below (negsuc n) h = (omega arith, refl)

size_above : (n : ℤ) → int_lt n (pos 0) ≡ false → (below_zero n ≡ 0) × (above_zero n ≡ unsigned_abs n)
size_above (pos n) h = (refl, refl)
size_above (negsuc n) h = cc

pub coefs-preserved : goal.coefs-preserved
coefs-preserved c =
    let coefs = c.args.coefs.now in
    let i = c.coefs.coef-index in
    let coef : ℤ = get_or coefs i (pos 0) in
    let small : unsigned_abs coef ≤ 2 ^ 30 = c.requires.small i (pos 0) c.coefs-test.true in
    let fits_coef : FitsSigned w64 coef = omega (arith, ints) in
    let size : c.from-size.result ≡ unsigned_abs coef = c.from-size.ensures ∙ simp to_z-of_z at c.unsigned_abs.ensures.value in
    let fall = falls-next coefs i c.coefs-test.true in
    let rise = rises-next coefs i c.coefs-test.true in
    let so_far = c.coefs.invariant in
    elim c.if-coef-lt0.branch [
      | then-coef-lt0 w ↦
          let (below, above) = size_below coef (simp to_z-of_z at w.if-coef-lt0.true) in
          record {
            falls = omega (arith, w.below-is, size, below, fall, so_far.falls);
            rises = omega (arith, w.above-is, above, rise, so_far.rises);
            few_below = omega (arith, w.below-is, size, small, so_far.few_below);
            few_above = omega (arith, w.above-is, so_far.few_above);
          }
      | else-coef-lt0 w ↦
          let (below, above) = size_above coef (simp to_z-of_z at w.if-coef-lt0.false) in
          record {
            falls = omega (arith, w.below-is, below, fall, so_far.falls);
            rises = omega (arith, w.above-is, size, above, rise, so_far.rises);
            few_below = omega (arith, w.below-is, so_far.few_below);
            few_above = omega (arith, w.above-is, size, small, so_far.few_above);
          }
    ]
