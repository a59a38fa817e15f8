-- From coefficient to coefficient.
use Rattle.std.proofs.Common.{◌≡◌, ℕ, zero, suc, ◌-◌, ◌<◌, ◌^◌, Bool, true, false, length, get_or, refl, sym, ap, ◌∙◌, subst, arith}
use Rattle.std.specs.Prelude.{ℤ, pos, ◌+ℤ◌}
use Rattle.std.proofs.lemmas.Int.{ints}
use Rattle.std.proofs.lemmas.Nat.{pow_pos}
use Rattle.opgen_heap.specs.Adding.{residue}
use Rattle.opgen_heap.specs.Contents.{Contents}
use Rattle.opgen_net.specs.declared.net.Net.{Net}
use Rattle.opgen_net.specs.Flow.{Inputs, flow}
use Rattle.opgen_net.specs.Grown.{HasGrown}
use Rattle.opgen_net.proofs.Grown.{grown-count, grown-flow, grown-width}
use Rattle.opgen_kinds.specs.declared.sum.Sum.{Sum}
use Rattle.opgen_kinds.specs.Sum.{guard_bits, IsSum}
use Rattle.opgen_ports.specs.Ports.{Recent}
use Rattle.opgen_kcm.specs.Chunks.{chunk_count, number}
use Rattle.opgen_kcm.specs.Multiple.{IsMultiple}
use Rattle.opgen_kcm.specs.Recipe.{input_width}
use Rattle.opgen_heap.proofs.Residues.{residue-then}
use Rattle.opgen_fir.specs.Recipe.{is_zero, taps, tapped, factor, with_half}
use Rattle.opgen_fir.specs.Summed.{recent, IsSummed, HasTerm, HasSum}
use Rattle.opgen_fir.proofs.Delays.{length-line, line-width, line-flow, tap_within}
use Rattle.opgen_fir.proofs.Factors.{zero-is}
use Rattle.opgen_fir.proofs.Summed.{zero-summed, term-summed}

-- of a coefficient 0 the input does not matter
pub term-input : (s : Sum) (coef x y : ℤ) (width old new : ℕ) → (is_zero coef ≡ false → x ≡ y) → HasTerm s coef x width old new
    → HasTerm s coef y width old new
term-input s coef x y width old new same h = record {
  by = h.by;
  nothing = h.nothing;
  multiple = λ e. subst (λ z. IsMultiple (factor s coef) (guard_bits s) (chunk_count s.input.width) z h.by) (same e) (h.multiple e);
  sum = h.sum;
}

pub step-sum : (s : Sum) → IsSum 256 s → (x : Recent) (k : ℕ) → k < length s.coefs → (coef : ℤ) → get_or s.coefs k (pos 0) ≡ coef
    → (width old new : ℕ)
    → HasSum s x k width old → HasTerm s coef (x k) width old new → HasSum s x (suc k) width new
step-sum s ranges x k within coef e width old new h t = record {
  total = h.total +ℤ t.by;
  summed = by (is_zero coef) refl;
  is = t.sum ∙ ap (λ n. residue (pos n +ℤ t.by) (2 ^ width)) h.is ∙ residue-then h.total t.by (2 ^ width) (pow_pos width);
}
  where
    by : (b : Bool) → is_zero coef ≡ b → IsSummed s x (suc k) (h.total +ℤ t.by)
    by true z =
        let here : is_zero (get_or s.coefs k (pos 0)) ≡ true = ap is_zero e ∙ z in
        let same : h.total ≡ h.total +ℤ t.by = omega (arith, ints, t.nothing z) in
        subst (λ f. IsSummed s x (suc k) f) same (zero-summed s x k h.total h.summed within here (zero-is (get_or s.coefs k (pos 0)) here))
    by false z =
        let here : is_zero (get_or s.coefs k (pos 0)) ≡ false = ap is_zero e ∙ z in
        term-summed s x k h.total h.summed within ranges here t.by
        (subst (λ c. IsMultiple (factor s c) (guard_bits s) (chunk_count s.input.width) (x k) t.by) (sym e) (t.multiple z))

-- the tap of a coefficient that is not 0 stands in a net that has grown
module _ (s : Sum) (k : ℕ) (within : k < length s.coefs) (some : is_zero (get_or s.coefs k (pos 0)) ≡ false) (net : Net)
    (grown : HasGrown (tapped s) net) where
  tap : k < taps s.coefs
  tap = tap_within (length s.coefs) k s.coefs within some

  pub tap-there : k < length net.nodes
  tap-there = omega (arith, tap, length-line s.input.width (taps s.coefs - 1), grown-count (tapped s) net grown)

  pub tap-width : input_width net k ≡ s.input.width
  tap-width =
      let early : k < length (tapped s).nodes = omega (arith, tap, length-line s.input.width (taps s.coefs - 1)) in
      grown-width (tapped s) net grown k early ∙ line-width s.input.width (taps s.coefs - 1) k (omega (arith, tap))

  pub tap-number : (inputs : Inputs) (t : ℤ) → number s.input.signed s.input.width (flow net.nodes inputs k t) ≡ recent s inputs t k
  tap-number inputs t =
      let early : k < length (tapped s).nodes = omega (arith, tap, length-line s.input.width (taps s.coefs - 1)) in
      ap (λ w. number s.input.signed s.input.width w)
      (grown-flow (tapped s) net grown inputs k t early ∙ line-flow s.input.width (taps s.coefs - 1) k inputs t (omega (arith, tap)))

pub half-columns : (guard : ℕ) (heap : Contents) → (with_half guard heap).columns ≡ heap.columns
half-columns zero heap = refl
half-columns (suc k) heap = refl
