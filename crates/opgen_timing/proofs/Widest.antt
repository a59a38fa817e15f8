-- The width of sums is the greatest at which they fit, and there is one such width.
use Rattle.std.proofs.Common.{◌≡◌, inl, inr, ℕ, zero, suc, ◌+◌, ◌<◌, ◌≤◌, Bool, true, false, refl, sym, ap, ◌∙◌, subst, arith}
use Rattle.std.specs.Prelude.{◌↔◌, IsTrue, max, nat_le, if◌then◌else◌}
use Rattle.std.proofs.lemmas.Bool.{and_from, and_parts, cases_lt, le-leb, leb-true}
use Rattle.opgen_num.specs.declared.format.TheConstants.{MAX_WIDTH}
use Rattle.opgen_net.specs.declared.cell.Class.TheVariants.{Add}
use Rattle.opgen_target.specs.Delays.{Delays, setup}
use Rattle.opgen_timing.specs.Widths.{IsSumWidth, SumsFit, sum_width, sums_fit, widest}

module _ (table : Delays) (period : ℕ) where
  abbrev takes : (width : ℕ) → ℕ
  takes width = table Add width + setup table

  -- what is computed of a width is what is stated of it
  fit-true : (most : ℕ) → sums_fit table period most ≡ true → SumsFit table period most
  fit-true zero e width low high = absurd (omega (arith, low, high))
  fit-true (suc w) e width low high =
      let both = and_parts (sums_fit table period w) (nat_le (takes (suc w)) period) e in
      elim (cases_lt width (suc w)) [
        | inl less ↦ fit-true w both.0 width low (omega (arith, less))
        | inr last ↦ subst (λ v. takes v ≤ period) (omega (arith, last, high)) (leb-true (takes (suc w)) period both.1)
      ]

  fit-of : (most : ℕ) → SumsFit table period most → sums_fit table period most ≡ true
  fit-of zero fits = refl
  fit-of (suc w) fits =
      and_from (sums_fit table period w) (nat_le (takes (suc w)) period)
      (fit-of w (λ width low high. fits width low (omega (arith, high))))
      (le-leb (takes (suc w)) period (fits (suc w) (omega arith) (omega arith)))

  -- the greatest width up to one, or 4
  record IsWidest (most w : ℕ) : Type 0 where
    least : 4 ≤ w
    few : w ≤ max 4 most
    fits : 4 < w → SumsFit table period w
    greatest : (other : ℕ) → other ≤ most → SumsFit table period other → other ≤ w

  wider : (most : ℕ) (b : Bool) → sums_fit table period (suc most) ≡ b → IsWidest most (widest table period most)
      → IsWidest (suc most) (if b then max 4 (suc most) else widest table period most)
  wider most true e h = record {
    least = omega arith;
    few = omega arith;
    fits = λ more. let is : suc most ≡ max 4 (suc most) = omega (arith, more) in
        subst (SumsFit table period) is (fit-true (suc most) e);
    greatest = λ other up fits. omega (arith, up);
  }
  wider most false e h = record {
    least = h.least;
    few = let few = h.few in omega (arith, few);
    fits = h.fits;
    greatest = λ other up fits. elim (cases_lt other (suc most)) [
      | inl less ↦ h.greatest other (omega (arith, less)) fits
      | inr last ↦ let all = fit-of (suc most) (subst (SumsFit table period) (omega (arith, last, up)) fits) in absurd (cc)
    ];
  }

  widest-is : (most : ℕ) → IsWidest most (widest table period most)
  widest-is zero = record {
    least = omega arith;
    few = omega arith;
    fits = λ more. absurd (omega (arith, more));
    greatest = λ other up fits. omega (arith, up);
  }
  widest-is (suc most) = wider most (sums_fit table period (suc most)) refl (widest-is most)

  pub sum_width-is : IsSumWidth table period (sum_width table period)
  unfolding sum_width
  sum_width-is =
      let h = widest-is MAX_WIDTH in
      record { least = h.least; few = let few = h.few in omega (arith, few); fits = h.fits; greatest = h.greatest }

  -- no width is greater than another
  at-most : (a b : ℕ) → IsSumWidth table period a → IsSumWidth table period b → a ≤ b
  at-most a b h k = elim (cases_lt 4 a) [
    | inl more ↦ k.greatest a h.few (h.fits more)
    | inr least ↦ let other = k.least in omega (arith, least, other)
  ]

  pub one-width : (a : ℕ) → IsSumWidth table period a → a ≡ sum_width table period
  one-width a h =
      let w = sum_width table period in omega (arith, at-most a w h sum_width-is, at-most w a sum_width-is h)

  -- the last width before one at which a sum does not fit, or 4
  pub last-before : (most : ℕ) → most < MAX_WIDTH → SumsFit table period most → (takes (most + 1) ≤ period → ⊥)
      → IsSumWidth table period (max 4 most)
  last-before most few fits stops = record {
    least = omega arith;
    few = omega (arith, few);
    fits = λ more. let is : most ≡ max 4 most = omega (arith, more) in subst (SumsFit table period) is fits;
    greatest = λ other up all. elim (cases_lt most other) [
      | inl more ↦ absurd (stops (all (most + 1) (omega arith) (omega (arith, more))))
      | inr less ↦ omega (arith, less)
    ];
  }

  -- all widths
  pub last-of_all : (most : ℕ) → MAX_WIDTH ≤ most → SumsFit table period most → IsSumWidth table period MAX_WIDTH
  last-of_all most all fits = record {
    least = omega arith;
    few = omega arith;
    fits = λ more width low high. fits width low (omega (arith, high, all));
    greatest = λ other up fit. up;
  }

-- a test that fails
pub stopped : (b : Bool) (X : Type 0) → (IsTrue b ↔ X) → b ≡ false → X → ⊥
stopped true X is e x = absurd (cc)
stopped false X is e x = let no = is.1 x in absurd (cc)
