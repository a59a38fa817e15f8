-- What the products of the bits of two factors add to a heap.
use Rattle.std.proofs.Common.{◌≡◌, ℕ, ◌+◌, ◌*◌, ◌%◌, ◌^◌, ◌<◌, ◌≤◌, Bool, true, false, List, length, sym, ap, ◌∙◌, subst, arith}
use Rattle.std.specs.Prelude.{ℤ, pos, negsuc, ◌+ℤ◌, ◌-ℤ◌, ◌*ℤ◌, ◌≤ℤ◌, unsigned_abs}
use Rattle.std.specs.Int.{int_div_euclid, int_rem_euclid}
use Rattle.std.proofs.Math.Nat.{add-mul-mod_self_right, mod-lt}
use Rattle.std.proofs.lemmas.Int.{ints}
use Rattle.std.proofs.lemmas.Nat.{pow_pos}
use Rattle.opgen_num.specs.Words.{digit}
use Rattle.opgen_num.proofs.Integers.{commuted, product-sum}
use Rattle.opgen_num.proofs.Quotients.{quotient_and_rest}
use Rattle.opgen_budget.specs.Columns.{weight_below}
use Rattle.opgen_budget.specs.Sums.{sum_over_pairs}
use Rattle.opgen_heap.specs.Adding.{residue}
use Rattle.opgen_heap.specs.Standing.{AllThere}
use Rattle.opgen_heap.specs.Sum.{heap_sum}
use Rattle.opgen_heap.proofs.Residues.{residue-natural, residue-then}
use Rattle.opgen_net.specs.Flow.{flow}
use Rattle.opgen_net.specs.Valid.{IsValid}
use Rattle.opgen_partial.specs.declared.pairs.Factor.{Factor}
use Rattle.opgen_partial.specs.declared.pairs.Placing.{Placing}
use Rattle.opgen_partial.specs.declared.pairs.Products.{Products}
use Rattle.opgen_partial.specs.declared.pairs.Work.{Work}
use Rattle.opgen_partial.specs.Law.{AreFactors, IsPlaced, HasPlaced, HasProducts, IsSumWithPlaced, IsSumWithProduct, placed_product, number, words_at}
use Rattle.opgen_partial.specs.Recipe.{in_place, is_turned, sign_correction, correction, with_placed, with_products}
use Rattle.opgen_partial.proofs.Counted.{once_each, placed-product}
use Rattle.opgen_partial.proofs.HeapSums.{HasSum, first, second, first-length, second-length, kept_sum, products-sum}
use Rattle.opgen_partial.proofs.Kept.{made_at, out_at, placed_at, units_at, in_two, out_below, moved, in_width}
use Rattle.opgen_partial.proofs.PartialSums.{piece}

digit-small : (b : Bool) → digit b ≤ 1
digit-small true = omega arith
digit-small false = omega arith

module _ (p : Products) (f : Placing) (placed : IsPlaced p f) (before : Work) (valid : IsValid before.net)
    (factors : AreFactors p before.net) (there : AllThere before.net before.heap.columns) where
  -- one heap's sum
  sum-law : (a b : List Bool) (start : ℕ) → length a ≡ p.a.width → length b ≡ p.b.width → (f.square ≡ true → b ≡ a)
      → IsSumWithPlaced p f a b before.heap.width start
      ((start + kept_sum p f placed before valid factors there p.a.width a b) % 2 ^ before.heap.width)
  sum-law a b start wide_a wide_b words = record { missing = O; light = out_below p f placed H d small; by = S; placed = scaled; sum = is }
    where
      m : ℕ
      m = p.a.width

      n : ℕ
      n = p.b.width

      H : ℕ
      H = before.heap.width

      d : ℕ → ℕ → ℕ
      d i j = digit (piece (is_turned p f) a b i j)

      small : (i j : ℕ) → d i j ≤ 1
      small i j = digit-small (piece (is_turned p f) a b i j)

      O : ℕ
      O = sum_over_pairs m n (out_at p f placed H d small)

      S : ℕ
      S = sum_over_pairs m n (placed_at p f placed H d small)

      F : ℕ
      F = sum_over_pairs m n (units_at p f placed H d small)

      K : ℕ
      K = kept_sum p f placed before valid factors there m a b

      product : placed_product p f a b
          ≡ pos (once_each p f placed a b factors.first.is_width.0 factors.second.is_width.0 wide_a wide_b words) +ℤ correction p f
      product = placed-product p f placed a b factors.first.is_width.0 factors.second.is_width.0 wide_a wide_b words

      made : ℕ
      made = sum_over_pairs m n (made_at p f placed H d small)

      rest : (placed_product p f a b -ℤ correction p f) -ℤ pos O ≡ pos made
      rest = omega (arith, ints, product, in_two p f placed H d small)

      scaled : pos (2 ^ f.lowered * S) ≡ pos (2 ^ f.raised) *ℤ ((placed_product p f a b -ℤ correction p f) -ℤ pos O)
      scaled =
          let natural : pos (2 ^ f.raised) *ℤ pos made ≡ pos (2 ^ f.raised * made) = omega (arith, ints) in
          sym (ap (λ z. pos (2 ^ f.raised) *ℤ z) rest ∙ natural ∙ ap pos (moved p f placed H d small))

      is : (start + K) % 2 ^ H ≡ (start + S) % 2 ^ H
      is =
          let split : start + S ≡ start + K + F * 2 ^ H = omega (arith, in_width p f placed H d small) in
          sym (ap (λ k. k % 2 ^ H) split ∙ add-mul-mod_self_right (start + K) F (2 ^ H))

  pub placed-law : HasPlaced p f before (with_placed p f before)
  placed-law =
      let has : HasSum p f placed before valid factors there (with_placed p f before)
      (kept_sum p f placed before valid factors there p.a.width) = products-sum p f placed before valid factors there in
      record {
        valid = has.valid;
        grown = has.grown;
        there = has.there;
        width = has.width;
        constant = has.constant;
        few = has.few;
        sum = λ ins t words.
            let a = first p f placed before valid factors there ins t in
            let b = second p f placed before valid factors there ins t in
            let start = heap_sum (words_at before.net.nodes ins t) before.heap in
            let after = with_placed p f before in
            let is : heap_sum (words_at after.net.nodes ins t) after.heap
            ≡ (start + kept_sum p f placed before valid factors there p.a.width a b) % 2 ^ before.heap.width =
            has.sum ins t words ∙ ap (λ k. (start + kept_sum p f placed before valid factors there p.a.width a b) % 2 ^ k) has.width in
            subst (IsSumWithPlaced p f a b before.heap.width start) (sym is)
            (sum-law a b start (first-length p f placed before valid factors there ins t words)
            (second-length p f placed before valid factors there ins t words)
            (λ e. ap (λ (g : Factor). flow before.net.nodes ins g.node t) (placed.same e)));
      }

pub plainly-placed : (p : Products) → IsPlaced p in_place
plainly-placed p = record { lowered = omega arith; raised = omega arith; same = λ e. let clash : false ≡ true = e in let no : ⊥ = cc in absurd no }

-- each in its own column
plain-sum : (p : Products) (x y : List Bool) (width before after : ℕ) → IsSumWithPlaced p in_place x y width before after
    → IsSumWithProduct p x y width before after
plain-sum p x y width before after has = record {
  missing = has.missing;
  light = has.light;
  sum =
      let P = number p.a x *ℤ number p.b y in
      let C = sign_correction p.a.signed p.b.signed p.a.width p.b.width in
      let one : pos 1 *ℤ ((P -ℤ C) -ℤ pos has.missing) ≡ (P -ℤ C) -ℤ pos has.missing = omega (arith, ints) in
      let unit : 1 * has.by ≡ has.by = omega arith in
      let by : pos has.by ≡ (P -ℤ C) -ℤ pos has.missing = ap pos (sym unit) ∙ has.placed ∙ one in
      let whole : pos (before + has.by) ≡ pos before +ℤ pos has.by = omega (arith, ints) in
      has.sum ∙ sym (residue-natural (before + has.by) (2 ^ width) (pow_pos width))
      ∙ ap (λ z. residue z (2 ^ width)) (whole ∙ ap (λ z. pos before +ℤ z) by);
}

pub products-from : (p : Products) (before after : Work) → HasPlaced p in_place before after → HasProducts p before after
products-from p before after has = record {
  valid = has.valid;
  grown = has.grown;
  there = has.there;
  width = has.width;
  constant = has.constant;
  few = has.few;
  sum = λ ins t words.
      plain-sum p (flow before.net.nodes ins p.a.node t) (flow before.net.nodes ins p.b.node t) before.heap.width
      (heap_sum (words_at before.net.nodes ins t) before.heap) (heap_sum (words_at after.net.nodes ins t) after.heap)
      (has.sum ins t words);
}

pub products-law : (p : Products) (before : Work) → IsValid before.net → AreFactors p before.net
    → AllThere before.net before.heap.columns → HasProducts p before (with_products p before)
products-law p before valid factors there =
    products-from p before (with_products p before) (placed-law p in_place (plainly-placed p) before valid factors there)

-- a sum that is known modulo a number, as a whole number that differs from it by a multiple
pub residue_number : (z : ℤ) (M sum : ℕ) → 0 < M → sum ≡ residue z M → (k : ℤ) × (z +ℤ (pos M *ℤ k) ≡ pos sum)
residue_number z M sum some is =
    let q = int_div_euclid z (pos M) in
    let k = pos 0 -ℤ q in
    let none : k +ℤ q ≡ pos 0 = omega (arith, ints) in
    let total : pos M *ℤ (k +ℤ q) ≡ pos 0 = ap (λ x. pos M *ℤ x) none ∙ omega (arith, ints) in
    (k, omega (arith, ints, is, rest (int_rem_euclid z (pos M)) (rest-positive z), quotient_and_rest z (pos M) (omega (arith, ints, some)), total, product-sum (pos M) k q, commuted q (pos M)))
  where
    rest : (r : ℤ) → pos 0 ≤ℤ r → pos (unsigned_abs r) ≡ r
    rest (pos n) h = omega (arith, ints)
    rest (negsuc n) h = absurd (omega (arith, ints, h))

    rest-positive : (z : ℤ) → pos 0 ≤ℤ int_rem_euclid z (pos M)
    rest-positive (pos n) = omega (arith, ints)
    rest-positive (negsuc n) = omega (arith, ints, mod-lt n some)

-- The sum of a heap that was empty, with the correction for the signs and some other number added: the product of the words'
-- numbers less what is missing, and that number, but for a multiple of 2 to the heap's width.
pub record IsRounded (p : Products) (x y : List Bool) (width : ℕ) (added : ℤ) (sum : ℕ) : Type 0 where
  pub missing : ℕ
  pub light : missing ≤ weight_below p.a.width p.b.width p.left_out
  pub turns : ℤ
  pub number_is : (((number p.a x *ℤ number p.b y) -ℤ pos missing) +ℤ added) +ℤ (pos (2 ^ width) *ℤ turns) ≡ pos sum

pub rounded_sum : (p : Products) (x y : List Bool) (width before after sum : ℕ) (added : ℤ) → before ≡ 0 → IsSumWithProduct p x y width before after
    → sum ≡ residue (pos after +ℤ (sign_correction p.a.signed p.b.signed p.a.width p.b.width +ℤ added)) (2 ^ width)
    → IsRounded p x y width added sum
rounded_sum p x y width before after sum added none has is =
    let P = number p.a x *ℤ number p.b y in
    let C = sign_correction p.a.signed p.b.signed p.a.width p.b.width in
    let z = pos before +ℤ ((P -ℤ C) -ℤ pos has.missing) in
    let total : z +ℤ (C +ℤ added) ≡ (P -ℤ pos has.missing) +ℤ added = omega (arith, ints, none) in
    let same : sum ≡ residue ((P -ℤ pos has.missing) +ℤ added) (2 ^ width) =
    is
    ∙ ap (λ s. residue (pos s +ℤ (C +ℤ added)) (2 ^ width)) has.sum
    ∙ residue-then z (C +ℤ added) (2 ^ width) (pow_pos width)
    ∙ ap (λ v. residue v (2 ^ width)) total in
    let number = residue_number ((P -ℤ pos has.missing) +ℤ added) (2 ^ width) sum (pow_pos width) same in
    record { missing = has.missing; light = has.light; turns = number.0; number_is = number.1 }
