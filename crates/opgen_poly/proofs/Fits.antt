-- The net of a polynomial fits the operator.
use Rattle.std.proofs.Common.{◌≡◌, ℕ, List, [], ◌∷◌, map, codes, sym, ap, ◌∙◌, subst}
use Rattle.std.specs.Prelude.{ℤ, pos, ◌-ℤ◌}
use Rattle.opgen_num.specs.Words.{val}
use Rattle.opgen_design.specs.Value.{word_at}
use Rattle.opgen_net.specs.declared.net.Output.{Output}
use Rattle.opgen_net.specs.Flow.{Inputs, input_at, slice_flow}
use Rattle.opgen_net.specs.Valid.{slice_width}
use Rattle.opgen_kinds.specs.declared.poly.Poly.{Poly as Polynomial}
use Rattle.opgen_operator.specs.declared.operator.Operator.TheVariants.{Poly}
use Rattle.opgen_operator.specs.Fits.{FitsOperator, FitsInEachMode}
use Rattle.opgen_num.specs.declared.mode.Mode.TheVariants.{Faithful}
use Rattle.opgen_num.proofs.Integers.{less-zero}
use Rattle.opgen_num.proofs.Values.{val-unsigned}
use Rattle.opgen_ports.specs.Modes.{mode_of_exact}
use Rattle.opgen_operator.proofs.EachMode.{fits_each_mode}
use Rattle.opgen_operator.proofs.Shown.{one_shown}
use Rattle.opgen_ports.specs.Good.{IsGoodRatio}
use Rattle.opgen_kinds.specs.Poly.{IsAcceptedPoly, exact_poly, poly_format, IsPoly}
use Rattle.opgen_operator.proofs.Accepted.{accepted_ranges, poly_faithful}
use Rattle.opgen_poly.specs.Near.{input_number}
use Rattle.opgen_poly.specs.Recipe.{net_of_poly}
use Rattle.opgen_poly.proofs.Runs.{output, out, made-inputs, made-outputs, made-passes, made-valid, output-wide, output-value, output-near, words-for}

pub accepted : (p : Polynomial) → IsAcceptedPoly p → IsPoly p
accepted p is = accepted_ranges (Poly p) is

module _ (p : Polynomial) (fits : IsPoly p) where
  -- of the first of some outputs
  abbrev shown : Inputs → ℕ → List Output → ℤ
  shown ins t os = val (word_at (map (λ o. slice_flow (net_of_poly p).nodes ins o.from (pos t)) os) 0) (poly_format p)

  abbrev entered : Inputs → ℕ → ℤ
  entered ins t = val (input_at ins 0 p.input.width (pos t -ℤ pos 0)) p.input

  input-now : (ins : Inputs) (t : ℕ) → entered ins t ≡ pos (input_number p ins (pos t))
  input-now ins t =
      ap (λ u. val (input_at ins 0 p.input.width u) p.input) (less-zero t)
      ∙ val-unsigned (input_at ins 0 p.input.width (pos t)) p.input fits.unsigned

  pub net-fits : FitsOperator Faithful (Poly p) (net_of_poly p)
  net-fits = record {
    valid = made-valid p fits;
    inputs = made-inputs p fits;
    outputs = ap (λ os. map (λ (o : Output). (o.name, slice_width o.from)) os) (made-outputs p fits)
        ∙ ap (λ k. (codes "y", k) ∷ []) (output-wide p fits);
    delays = made-passes p fits;
    good = λ ins t words less ranges.
        let inside = words-for p fits ins words in
        let value : shown ins t (output p fits ∷ []) ≡ out p fits ins (pos t) inside = output-value p fits ins (pos t) inside in
        let all : shown ins t (net_of_poly p).outputs ≡ out p fits ins (pos t) inside = ap (shown ins t) (made-outputs p fits) ∙ value in (
          tt,
          one_shown (λ x y. IsGoodRatio Faithful (exact_poly p x) y) (input-now ins t) all (output-near p fits ins (pos t) inside),
        );
  }

pub fits_modes : (p : Polynomial) → IsAcceptedPoly p → FitsInEachMode (Poly p) (net_of_poly p)
fits_modes p is =
    fits_each_mode (Poly p) (net_of_poly p)
    (λ exact mode. subst (λ x. FitsOperator (mode_of_exact x) (Poly p) (net_of_poly p)) (sym (poly_faithful exact p mode))
    (net-fits p (accepted p is)))
