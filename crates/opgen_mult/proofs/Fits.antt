-- The net of a product fits the operator.
use Rattle.std.proofs.Common.{◌≡◌, ℕ, zero, suc, ◌+◌, ◌-◌, ◌^◌, ◌≤◌, Bool, true, false, if◌then◌else◌, List, ◌++◌, length, replicate, Option, Some, None, refl, sym, ap, ◌∙◌, subst, arith}
use Rattle.std.specs.Prelude.{ℤ, pos, negsuc, ◌+ℤ◌, ◌-ℤ◌, ◌*ℤ◌, int_lt}
use Rattle.std.proofs.lemmas.Int.{ints}
use Rattle.opgen_num.specs.declared.format.Format.{Format}
use Rattle.opgen_num.specs.Formats.{Holds}
use Rattle.opgen_num.specs.Rounding.{IsWithinOne, IsGoodLinear}
use Rattle.opgen_num.specs.Words.{val, nat}
use Rattle.opgen_num.proofs.Values.{val_holds}
use Rattle.opgen_budget.specs.Columns.{weight_below}
use Rattle.opgen_budget.proofs.Weights.{weight_below-zero}
use Rattle.opgen_design.specs.Value.{cut}
use Rattle.opgen_kinds.specs.declared.product.Product.{Product}
use Rattle.opgen_operator.specs.declared.operator.Operator.TheVariants.{Multiply}
use Rattle.opgen_ports.specs.Good.{IsGoodRatio}
use Rattle.opgen_operator.specs.Held.{OutputsHold}
use Rattle.opgen_kinds.specs.Product.{IsAcceptedProduct, exact_product, product_shift, product_format, IsProduct}
use Rattle.opgen_operator.specs.Operator.{inexact}
use Rattle.opgen_ports.specs.Modes.{mode_of_exact}
use Rattle.opgen_ports.specs.Reaches.{places_down}
use Rattle.opgen_ports.proofs.Bounds.{one_way}
use Rattle.opgen_operator.proofs.Accepted.{accepted_ranges}
use Rattle.opgen_partial.proofs.Laws.{IsRounded}
use Rattle.opgen_mult.specs.Recipe.{IsLeftOut, bits_below, zeros_below, heap_width, pairs, rounding}
use Rattle.opgen_mult.proofs.InputWords.{input-width}
use Rattle.opgen_mult.proofs.HeapWidth.{Layout}
use Rattle.opgen_mult.proofs.Rounding.{cut_down, above_zeros}

-- the rounded output, by its places: those below the output, and the zeros below the product
good_at : (below zeros : ℕ) (exact : Bool) (product : ℤ) (sum : List Bool) (format : Format) (left_out : ℕ) (k : ℤ)
    → (exact ≡ true → below ≡ 0) → (1 ≤ below → zeros ≡ 0)
    → length sum + zeros ≡ format.width + below → 1 ≤ format.width → left_out ≤ rounding below
    → ((product -ℤ pos left_out) +ℤ pos (rounding below)) +ℤ (pos (2 ^ length sum) *ℤ k) ≡ pos (nat sum)
    → ((y : ℤ) → IsWithinOne (product *ℤ pos (2 ^ zeros)) (pos (2 ^ below)) y → Holds format.signed format.width y)
    → IsGoodLinear (product *ℤ pos (2 ^ zeros)) (pos (2 ^ below))
    (val (cut (below + format.width - 1) below (replicate zeros false ++ sum)) format) (mode_of_exact exact)
good_at zero zeros exact product sum format left_out k whole one wide some little number holds =
    let y = product *ℤ pos (2 ^ zeros) in
    let near : IsWithinOne y (pos 1) y = omega (arith, ints) in
    let plain : product +ℤ (pos (2 ^ length sum) *ℤ k) ≡ pos (nat sum) = omega (arith, ints, number, little) in
    let is = above_zeros product sum format zeros k (omega (arith, wide)) some plain (holds y near) in
    subst (λ v. IsGoodLinear y (pos 1) v (mode_of_exact exact)) (sym is) (good exact)
  where
    good : (e : Bool) → IsGoodLinear (product *ℤ pos (2 ^ zeros)) (pos 1) (product *ℤ pos (2 ^ zeros)) (mode_of_exact e)
    good true = omega (arith, ints)
    good false = omega (arith, ints)
good_at (suc below) (suc zeros) exact product sum format left_out k whole one wide some little number holds =
    absurd (omega (arith, one (omega arith)))
good_at (suc below) zero true product sum format left_out k whole one wide some little number holds = absurd (omega (arith, whole refl))
good_at (suc below) zero false product sum format left_out k whole one wide some little number holds =
    let plain : product ≡ product *ℤ pos (2 ^ 0) = omega (arith, ints) in
    let unit = pos (2 ^ suc below) in
    subst (λ n. IsWithinOne n unit (val (cut (suc below + format.width - 1) (suc below) sum) format)) plain
    (cut_down product sum format below left_out k (omega (arith, wide)) some little number
    (λ y h. holds y (subst (λ n. IsWithinOne n unit y) plain h)))

-- what is left out weighs at most what rounds
little : (m n below left : ℕ) → IsLeftOut m n below left → weight_below m n left ≤ rounding below
little m n zero left h = omega (arith, ap (weight_below m n) h, weight_below-zero m n)
little m n (suc below) left h =
    let e : suc below - 1 ≡ below = omega arith in
    omega (arith, h.1, ap (λ k. 2 ^ k) e)

abbrev zero_if : Bool → Option ℕ
zero_if c = if c then Some 0 else None

pub exact_whole : (p : Product) → inexact (Multiply p) ≡ None → bits_below p ≡ 0
exact_whole p h = by (product_shift p) h
  where
    by : (s : ℤ) → zero_if (int_lt s (pos 0)) ≡ None → places_down s ≡ 0
    by (pos k) e = refl
    by (negsuc k) e = cc

module _ (p : Product) (accepted : IsAcceptedProduct p) (fit : Layout p) (hold : OutputsHold)
    (left : ℕ) (cut_is : IsLeftOut p.a.width p.b.width (bits_below p) left) where
  -- From words of the inputs and the heap's: the output is good.
  pub output_is_good : (exact : Bool) → (exact ≡ true → bits_below p ≡ 0) → (a b sum : List Bool)
      → length a ≡ p.a.width → length b ≡ p.b.width → length sum ≡ heap_width p
      → IsRounded (pairs p left) a b (heap_width p) (pos (rounding (bits_below p))) (nat sum)
      → IsGoodRatio (mode_of_exact exact) (exact_product p (val a p.a) (val b p.b))
      (val (cut (bits_below p + (product_format p).width - 1) (bits_below p) (replicate (zeros_below p) false ++ sum)) (product_format p))
  output_is_good exact whole a b sum wide_a wide_b wide is =
      good_at (bits_below p) (zeros_below p) exact P sum (product_format p) is.missing is.turns whole (one_way (product_shift p))
      (omega (arith, wide, fit.room)) fit.output
      (omega (arith, is.light, little m n (bits_below p) left cut_is)) number_is
      (λ y h. hold (Multiply p) ranges A B of_a of_b y h)
    where
      m : ℕ
      m = p.a.width

      n : ℕ
      n = p.b.width

      A : ℤ
      A = val a p.a

      B : ℤ
      B = val b p.b

      P : ℤ
      P = A *ℤ B

      ranges : IsProduct p
      ranges = accepted_ranges (Multiply p) accepted

      some_a : 1 ≤ m
      some_a = (input-width p.a ranges.a).0

      some_b : 1 ≤ n
      some_b = (input-width p.b ranges.b).0

      of_a : Holds p.a.signed m A
      of_a = subst (λ k. Holds p.a.signed k A) wide_a (val_holds a p.a (omega (arith, wide_a, some_a)))

      of_b : Holds p.b.signed n B
      of_b = subst (λ k. Holds p.b.signed k B) wide_b (val_holds b p.b (omega (arith, wide_b, some_b)))

      number_is : ((P -ℤ pos is.missing) +ℤ pos (rounding (bits_below p))) +ℤ (pos (2 ^ length sum) *ℤ is.turns) ≡ pos (nat sum)
      number_is =
          ap (λ w. ((P -ℤ pos is.missing) +ℤ pos (rounding (bits_below p))) +ℤ (pos (2 ^ w) *ℤ is.turns)) wide ∙ is.number_is
