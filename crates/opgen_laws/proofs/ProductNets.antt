-- An accepted product has a net.
use Rattle.std.proofs.Common.{◌≡◌, ℕ, zero, suc, ◌+◌, ◌-◌, ◌^◌, ◌<◌, ◌≤◌, ⊎_elim, refl, subst, arith}
use Rattle.std.proofs.lemmas.Bool.{cases_lt}
use Rattle.opgen_budget.specs.Columns.{weight_below}
use Rattle.opgen_budget.proofs.Weights.{weight_below-zero}
use Rattle.opgen_net.specs.declared.net.Net.{Net}
use Rattle.opgen_kinds.specs.declared.product.Product.{Product}
use Rattle.opgen_mult.specs.Recipe.{IsLeftOut, IsNetOfProduct, bits_below, net_without}

-- ---- the columns that are left out
record Greatest (m n limit most : ℕ) : Type 0 where
  cut : ℕ
  within : cut ≤ most
  light : weight_below m n cut ≤ limit
  greatest : (more : ℕ) → more ≤ most → weight_below m n more ≤ limit → more ≤ cut

greatest_cut : (m n limit most : ℕ) → Greatest m n limit most
greatest_cut m n limit zero = record {
  cut = 0;
  within = omega arith;
  light = omega (arith, weight_below-zero m n);
  greatest = λ more le light. le;
}
greatest_cut m n limit (suc most) =
    let less = greatest_cut m n limit most in
    ⊎_elim
    (λ (heavy : limit < weight_below m n (suc most)). record {
      cut = less.cut;
      within = omega (arith, less.within);
      light = less.light;
      greatest = λ more le light. ⊎_elim
          (λ (lt : most < more).
          let same : more ≡ suc most = omega (arith, le, lt) in
          let again : weight_below m n (suc most) ≤ limit = subst (λ k. weight_below m n k ≤ limit) same light in
          absurd (omega (arith, heavy, again)))
          (λ (few : more ≤ most). less.greatest more few light)
          (cases_lt most more);
    })
    (λ (light : weight_below m n (suc most) ≤ limit). record {
      cut = suc most;
      within = omega arith;
      light = light;
      greatest = λ more le _. le;
    })
    (cases_lt limit (weight_below m n (suc most)))

left_out : (m n below : ℕ) → (columns : ℕ) × IsLeftOut m n below columns
left_out m n zero = (0, refl)
left_out m n (suc below) = let g = greatest_cut m n (2 ^ (suc below - 1)) (m + n - 1) in (g.cut, (g.within, g.light, g.greatest))

pub product_net : (p : Product) → (net : Net) × IsNetOfProduct p net
product_net p =
    let (left, is) = left_out p.a.width p.b.width (bits_below p) in
    (net_without p left, record { left_out = left; greatest = is; made = refl })
