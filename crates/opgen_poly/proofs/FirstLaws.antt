-- The last coefficient is a partial value.
use Rattle.std.proofs.Common.{◌≡◌, ℕ, suc, ◌+◌, ◌-◌, ◌*◌, ◌^◌, ◌<◌, true, List, [], ◌∷◌, length, drop, get_or, drop-cons, refl, sym, ap, ◌∙◌, subst, arith}
use Rattle.std.specs.Prelude.{ℤ, pos, ◌+ℤ◌, ◌*ℤ◌, ◌≤ℤ◌}
use Rattle.std.proofs.Math.Nat.{pow-zero}
use Rattle.std.proofs.lemmas.Int.{ints, int_min_is, int_max_is}
use Rattle.std.proofs.lemmas.List.{length-drop, length-map}
use Rattle.std.proofs.lemmas.List.Elements.{All-nil}
use Rattle.std.proofs.lemmas.Nat.{pow_pos}
use Rattle.opgen_num.specs.Formats.{Holds}
use Rattle.opgen_num.specs.Rounding.{distance}
use Rattle.opgen_num.specs.Words.{int, nat}
use Rattle.opgen_num.specs.WordLaws.{length-word, nat-word}
use Rattle.opgen_num.proofs.Residues.{value_from_residue}
use Rattle.opgen_design.specs.Value.{IsWidth}
use Rattle.opgen_heap.specs.Adding.{residue}
use Rattle.opgen_heap.proofs.Residues.{residue-below}
use Rattle.opgen_net.specs.declared.node.Node.{Node}
use Rattle.opgen_net.specs.declared.node.Node.TheVariants.{Constant}
use Rattle.opgen_net.specs.Flow.{Inputs, flow}
use Rattle.opgen_net.specs.Valid.{IsValid}
use Rattle.opgen_net.proofs.Appending.{valid-append, flow-append_last, width-append_last}
use Rattle.opgen_net.proofs.Grown.{grown-more}
use Rattle.opgen_kinds.specs.declared.poly.Poly.{Poly as Polynomial}
use Rattle.opgen_kinds.specs.Horner.{degree, all_guarded, guarded, low_end, high_end}
use Rattle.opgen_kinds.specs.Poly.{terms_from, IsPoly}
use Rattle.opgen_ports.proofs.InputPorts.{input_bit}
use Rattle.opgen_kinds.proofs.of_kind.Results.{ends_step, partial_bits}
use Rattle.opgen_partial.proofs.Laws.{residue_number}
use Rattle.opgen_poly.specs.Near.{IsPartial, exact_from, halves_from, input_number, IsAtMostHalves}
use Rattle.opgen_poly.specs.Recipe.{coefficient_at, first, last_word, width_at, with_input}
use Rattle.opgen_poly.proofs.Cores.{twice}
use Rattle.opgen_poly.proofs.Values.{den_of, scale_of, at_most, coefficient_near, den_is, signed-held}

nothing : (l : List ℤ) → length l ≡ 0 → l ≡ []
nothing [] h = refl
nothing (z ∷ l) h = absurd (omega (arith, h))

module _ (p : Polynomial) (fits : IsPoly p) where
  abbrev n : ℕ
  n = degree p

  abbrev A : ℤ
  A = coefficient_at p n

  abbrev c : ℤ
  c = get_or p.coefs n (pos 0)

  abbrev H : ℕ
  H = width_at p n

  there : n < length p.coefs
  there = omega (arith, fits.some)

  -- no coefficient is left
  last-coefficient : drop n p.coefs ≡ c ∷ []
  last-coefficient =
      drop-cons p.coefs n (pos 0) there
      ∙ ap (λ l. c ∷ l) (nothing (drop (suc n) p.coefs) (omega (arith, length-drop (suc n) p.coefs, fits.some)))

  last-guarded : drop n (all_guarded p) ≡ A ∷ []
  last-guarded =
      ends_step p n there
      ∙ ap (λ l. A ∷ l)
      (nothing (drop (n + 1) (all_guarded p))
      (omega (arith, length-drop (n + 1) (all_guarded p), length-map p.coefs (guarded p), fits.some)))

  low-is : low_end (drop n (all_guarded p)) ≡ A
  low-is = ap low_end last-guarded ∙ omega (arith, ints, int_min_is (pos 0) (pos 0))

  high-is : high_end (drop n (all_guarded p)) ≡ A
  high-is = ap high_end last-guarded ∙ omega (arith, ints, int_max_is (pos 0) (pos 0))

  pub word-long : length (last_word p) ≡ H
  word-long = length-word H (residue A (2 ^ H))

  pub word-value : int (last_word p) ≡ A
  word-value =
      let number = residue_number A (2 ^ H) (nat (last_word p)) (pow_pos H) (nat-word H (residue A (2 ^ H)) (residue-below A (2 ^ H) (pow_pos H))) in
      let is : A +ℤ (pos (2 ^ length (last_word p)) *ℤ number.0) ≡ pos (nat (last_word p)) =
      ap (λ k. A +ℤ (pos (2 ^ k) *ℤ number.0)) word-long ∙ number.1 in
      let holds : Holds true H A =
      signed-held (low_end (drop n (all_guarded p))) (high_end (drop n (all_guarded p))) A (omega (arith, ints, low-is))
      (omega (arith, ints, high-is)) in
      value_from_residue (last_word p) (record { signed = true; width = H; lsb = pos 0 }) A number.0
      (omega (arith, word-long, (partial_bits p n fits).0)) is (subst (λ k. Holds true k A) (sym word-long) holds)

  -- half a unit from the exact coefficient
  near-last : (x : ℕ) → IsAtMostHalves (halves_from p n) (exact_from p n x) A
  near-last x =
      let none : n - n ≡ 0 = omega arith in
      let one : halves_from p n ≡ 1 = omega arith in
      let (high, low) = coefficient_near p fits n in
      let plain_term : (c *ℤ pos 1) +ℤ pos 0 ≡ c = omega (arith, ints) in
      let numerator : (exact_from p n x).num ≡ c *ℤ pos (scale_of p) =
      ap (λ k. terms_from 0 (drop n p.coefs) p.input.width k x *ℤ pos (scale_of p)) none
      ∙ ap (λ cs. terms_from 0 cs p.input.width 0 x *ℤ pos (scale_of p)) last-coefficient
      ∙ ap (λ k. ((c *ℤ pos k) +ℤ pos 0) *ℤ pos (scale_of p)) (ap (λ k. k * 2 ^ (p.input.width * 0)) (pow-zero x) ∙ unit p.input.width)
      ∙ ap (λ z. z *ℤ pos (scale_of p)) plain_term in
      let denominator : (exact_from p n x).den ≡ pos (den_of p) =
      ap (λ k. p.den *ℤ pos (2 ^ (p.input.width * k))) none
      ∙ ap (λ k. p.den *ℤ pos k) (unit-power p.input.width)
      ∙ omega (arith, ints, den_is p fits) in
      let double : pos 2 *ℤ (pos (den_of p) *ℤ A) ≡ pos (2 * den_of p) *ℤ A = twice 2 (den_of p) A in
      let plain : (pos 2 *ℤ pos (distance (pos (den_of p) *ℤ A) (c *ℤ pos (scale_of p)))) ≤ℤ pos (den_of p) =
      at_most (pos (den_of p) *ℤ A) (c *ℤ pos (scale_of p)) (den_of p) (omega (arith, ints, high, double)) (omega (arith, ints, low, double)) in
      let scaled : (pos 2 *ℤ pos (distance (pos (den_of p) *ℤ A) (c *ℤ pos (scale_of p)))) ≤ℤ (pos (den_of p) *ℤ pos (halves_from p n)) =
      omega (arith, ints, plain, ap (λ k. pos (den_of p) *ℤ pos k) one) in
      subst (λ D. (pos 2 *ℤ pos (distance (D *ℤ A) (exact_from p n x).num)) ≤ℤ (D *ℤ pos (halves_from p n))) (sym denominator)
      (subst (λ N. (pos 2 *ℤ pos (distance (pos (den_of p) *ℤ A) N)) ≤ℤ (pos (den_of p) *ℤ pos (halves_from p n))) (sym numerator) scaled)
    where
      unit-power : (w : ℕ) → 2 ^ (w * 0) ≡ 1
      unit-power w =
          let none : w * 0 ≡ 0 = omega arith in
          ap (λ k. 2 ^ k) none

      unit : (w : ℕ) → 1 * 2 ^ (w * 0) ≡ 1
      unit w = omega (arith, unit-power w)

  pub input-valid : IsValid (with_input p)
  input-valid = record { nodes = ((input_bit p.input fits.input, omega (arith, fits.narrow)), tt); inputs = refl; outputs = All-nil _ }

  pub word-width : IsWidth (length (last_word p))
  word-width = (omega (arith, word-long, (partial_bits p n fits).0), omega (arith, word-long, (partial_bits p n fits).1))

  abbrev node : Node
  node = Constant (last_word p)

  first-word : (ins : Inputs) (t : ℤ) → flow (first p).net.nodes ins 1 t ≡ last_word p
  first-word ins t = flow-append_last (with_input p).nodes node ins t

  first-value : (ins : Inputs) (t : ℤ) → int (flow (first p).net.nodes ins 1 t) ≡ A
  first-value ins t = ap int (first-word ins t) ∙ word-value

  pub first-partial : IsPartial p n (first p)
  first-partial = record {
    valid = valid-append (with_input p) node input-valid word-width refl;
    grown = grown-more (with_input p) (node ∷ []) refl;
    wide = width-append_last (with_input p).nodes node ∙ word-long;
    low = λ ins t words. omega (arith, ints, first-value ins t, low-is);
    high = λ ins t words. omega (arith, ints, first-value ins t, high-is);
    near = λ ins t words.
        subst (IsAtMostHalves (halves_from p n) (exact_from p n (input_number p ins t))) (sym (first-value ins t))
        (near-last (input_number p ins t));
    nearer = λ ins t words before. absurd (omega (arith, before));
  }
