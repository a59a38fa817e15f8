use Rattle.std.proofs.Common.{◌≡◌, ◌+◌, ◌*◌, ◌∙◌, [], ◌∷◌, ap, FitsSigned, refl, rules, arith}
use Rattle.std.specs.Int.{w32, w64, w128}
use Rattle.std.specs.Prelude.{pos, neg_ℤ, ◌-ℤ◌, unsigned_abs}
use Rattle.std.proofs.lemmas.Int.{ints, to_z-of_z}
use Rattle.opgen_num.proofs.BitLength.{power_order}
use Rattle.opgen_ports.specs.declared.reach.Reach.{Reach}
use Rattle.opgen_ports.specs.Reaches.{reach_over}
use Rattle.opgen_terms.specs.Sop.{format_of, size_of}
use Rattle.opgen_terms.proofs.terms.scaled_term.Goals as goal

pub negated-requires : goal.negated-requires
negated-requires c =
    let width = c.format_of-format.result.width in
    omega (arith, c.reach_over-reach.ensures.below, power_order (width + 39) 96 (omega (arith, c.format_of-format.ensures.input.most)))

pub positive-requires : goal.positive-requires
positive-requires c =
    let width = c.format_of-format.result.width in
    omega (arith, c.reach_over-reach.ensures.above, power_order (width + 39) 96 (omega (arith, c.format_of-format.ensures.input.most)))

pub returns : goal.returns
returns c =
    let s = c.args.sop.now in
    let t = c.args.scaled in
    let f = c.format_of-format.result in
    let input = c.format_of-format.ensures.input in
    let fits_coef : FitsSigned w64 t.coefficient = search rules in
    let fits_lsb : FitsSigned w32 f.lsb = omega (arith, ints, input.lsb.0, input.lsb.1) in
    let fits_out : FitsSigned w32 s.out_lsb = omega (arith, ints, c.requires.sop.numbers.out_lsb.0, c.requires.sop.numbers.out_lsb.1) in
    let fits_shift : FitsSigned w32 (f.lsb -ℤ s.out_lsb) =
    omega (arith, ints, input.lsb.0, input.lsb.1, c.requires.sop.numbers.out_lsb.0, c.requires.sop.numbers.out_lsb.1) in
    let fits_least : FitsSigned w128 c.negated.result = search rules in
    let fits_most : FitsSigned w128 c.positive.result = search rules in
    let reach : c.reach_over-reach.result ≡ reach_over f (t.coefficient ∷ []) = simp to_z-of_z at c.reach_over-reach.ensures.value in
    let least : c.negated.result ≡ neg_ℤ (pos (reach_over f (t.coefficient ∷ [])).below) =
    c.negated.ensures ∙ ap (λ (r : Reach). neg_ℤ (pos r.below)) reach in
    let most : c.positive.result ≡ pos (reach_over f (t.coefficient ∷ [])).above =
    c.positive.ensures ∙ ap (λ (r : Reach). pos r.above) reach in
    let size : c.size_with.result ≡ unsigned_abs t.coefficient * size_of f =
    (simp to_z-of_z at c.size_with.ensures) ∙ ap (λ k. unsigned_abs t.coefficient * k) c.size_of.ensures.value in
    let same : f ≡ format_of s t.input = c.format_of-format.ensures.value in
    simp to_z-of_z (rw (least, most, size, same) refl)
