-- What a division leaves, with restoring or without: digits and bits that stand, and that the numerator is the quotient times the
-- divisor, and the remainder.
use Rattle.std.proofs.Common.{◌≡◌, ℕ, ◌<◌, Bool, true, length, take, refl, sym, ap, ◌∙◌, subst, arith, nat_lt}
use Rattle.std.specs.Prelude.{ℤ}
use Rattle.std.proofs.Math.Seq.{take-length}
use Rattle.std.proofs.lemmas.Bool.{or_left}
use Rattle.opgen_num.specs.Words.{nat}
use Rattle.opgen_design.specs.Value.{IsWidth}
use Rattle.opgen_net.specs.Flow.{Inputs}
use Rattle.opgen_net.specs.Placed.{number_at}
use Rattle.opgen_net.proofs.Grown.{grown-flow}
use Rattle.opgen_net.proofs.Later.{Later, words-later}
use Rattle.opgen_net.proofs.Numbers.{number-kept}
use Rattle.opgen_kinds.specs.declared.pair.Pair.{Pair}
use Rattle.opgen_ports.specs.declared.recipes.Recurrence.{Recurrence}
use Rattle.opgen_ports.specs.declared.recipes.Recurrence.TheVariants.{Restoring, Nonrestoring}
use Rattle.opgen_digits.specs.Digit.{Known}
use Rattle.opgen_digits.specs.Results.{AreResults}
use Rattle.opgen_nonrestoring.specs.Recipe.{divided}
use Rattle.opgen_nonrestoring.specs.Steps.{IsDivisor}
use Rattle.opgen_nonrestoring.proofs.Divided.{done-later, done-results, done-count, done-rest, has_quotient}
use Rattle.opgen_divide.specs.Recipe.{with_magnitudes, numerator, digit_count, keeps, after, divisor_node, divided_by}
use Rattle.opgen_divide.specs.Steps.{IsDivided}
use Rattle.opgen_divide.proofs.Absolutes.{HasWidths, AreFor, are_magnitudes}
use Rattle.opgen_divide.proofs.Arithmetic.{same_division, kept_where, divided_of}
use Rattle.opgen_divide.proofs.Steps.{base, divisor_at, Stands, stands, base-valid, divisor-there, numerator-length, numerator-there}

module _ (p : Pair) (have : HasWidths p) where
  abbrev steps : ℕ
  steps = digit_count p

  abbrev pub numerator_at : Inputs → ℤ → ℕ
  numerator_at inputs t = number_at (base p have).nodes inputs t (numerator p)

  pub record IsDivision (known : Known) : Type 0 where
    pub later : Later (base p have) known.net
    pub results : AreResults p.exact known
    pub count : length known.digits ≡ digit_count p
    pub rest_count : p.exact ≡ true → length known.rest ≡ p.b.width
    pub right :
        (inputs : Inputs) (t : ℤ) → AreFor p have (base p have) inputs → 0 < divisor_at p have inputs t
        → IsDivided p.exact (numerator_at inputs t) (divisor_at p have inputs t) (number_at known.net.nodes inputs t known.digits)
        (number_at known.net.nodes inputs t known.rest)

  digits-wide : IsWidth steps
  digits-wide = (omega (arith, have.some_a), omega (arith, have.few))

  -- with restoring

  abbrev last : Known
  last = after p steps

  at_last : Stands p have steps last
  at_last = stands p have steps (omega arith)

  keeps-last : p.exact ≡ true → keeps p steps ≡ true
  keeps-last exact = or_left p.exact (nat_lt steps steps) exact

  all-taken : take steps (numerator p) ≡ numerator p
  all-taken = ap (λ m. take m (numerator p)) (sym (numerator-length p have)) ∙ take-length (numerator p)

  restored : IsDivision last
  restored = record {
    later = at_last.later;
    results = record {
      width = subst IsWidth (sym at_last.count) digits-wide;
      digits = at_last.digits;
      rest_width = λ exact.
          let long = at_last.rest_count (keeps-last exact) in
          (omega (arith, long, have.some_b), omega (arith, long, have.few_b));
      rest = at_last.rest;
    };
    count = at_last.count;
    rest_count = λ exact. at_last.rest_count (keeps-last exact);
    right = λ inputs t words some.
        let all = ap (number_at (base p have).nodes inputs t) all-taken in
        same_division p.exact _ _ _ _ _ _ _ _ all refl refl refl
        (kept_where (keeps p steps) p.exact _ _ _ _ keeps-last (at_last.right inputs t words some));
  }

  -- without

  pub is_divisor : IsDivisor (base p have) (divisor_node p)
  is_divisor = record { some = have.some_b; few = omega (arith, have.few_b); wide = (are_magnitudes p have).divisor }

  abbrev known : Known
  known = divided_by Nonrestoring p

  pub numerator-wide : IsWidth (length (numerator p))
  numerator-wide = subst IsWidth (sym (numerator-length p have)) digits-wide

  all-later : Later (base p have) known.net
  all-later = done-later (numerator p) (divisor_node p) (base p have) (base-valid p have) is_divisor (numerator-there p have) p.exact

  unrestored : IsDivision known
  unrestored = record {
    later = all-later;
    results =
        done-results (numerator p) (divisor_node p) (base p have) (base-valid p have) is_divisor (numerator-there p have) p.exact numerator-wide;
    count =
        done-count (numerator p) (divisor_node p) (base p have) (base-valid p have) is_divisor (numerator-there p have) p.exact
        ∙ numerator-length p have;
    rest_count = λ exact.
        ap (λ (c : Bool). length (divided c (numerator p) (divisor_node p) (base p have)).rest) exact
        ∙ done-rest (numerator p) (divisor_node p) (base p have) (base-valid p have) is_divisor (numerator-there p have);
    right = λ inputs t words some.
        let keeps = grown-flow (base p have) known.net all-later.grown in
        let n = number-kept (base p have).nodes known.net.nodes keeps inputs t (numerator p) (numerator-there p have) in
        let b = ap nat (keeps inputs (with_magnitudes p).divisor t (divisor-there p have)) in
        let now = words-later (base p have) known.net all-later inputs words in
        let held =
        has_quotient (numerator p) (divisor_node p) (base p have) (base-valid p have) is_divisor (numerator-there p have) p.exact
        inputs t now (omega (arith, some, b)) in
        same_division p.exact _ _ _ _ _ _ _ _ n b refl refl (divided_of p.exact _ _ _ _ held);
  }

  pub division : (recurrence : Recurrence) → IsDivision (divided_by recurrence p)
  division Restoring = restored
  division Nonrestoring = unrestored
