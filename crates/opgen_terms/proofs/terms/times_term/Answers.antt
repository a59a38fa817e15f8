use Rattle.std.proofs.Common.{◌≡◌, ◌*◌, ◌∙◌, ap, FitsSigned, refl, rules, arith}
use Rattle.std.specs.Int.{w32, w64, w128}
use Rattle.std.specs.Prelude.{pos, neg_ℤ, ◌+ℤ◌, ◌-ℤ◌, ◌*ℤ◌, unsigned_abs}
use Rattle.std.proofs.lemmas.Int.{ints, to_z-of_z}
use Rattle.opgen_num.proofs.BitLength.{power_order}
use Rattle.opgen_ports.specs.declared.reach.Reach.{Reach}
use Rattle.opgen_ports.proofs.Bounds.{products}
use Rattle.opgen_terms.specs.Sop.{format_of, size_of, times_reach, turned_if}
use Rattle.opgen_terms.proofs.terms.times_term.Goals as goal

pub overflow_mul-size_of : goal.overflow_mul-size_of
overflow_mul-size_of c =
    let all = products c.size_of.result c.size_of-2.result 48 48
    (omega (arith, c.size_of.ensures.bound, power_order c.format_of-a.result.width 48 c.format_of-a.ensures.input.most))
    (omega (arith, c.size_of-2.ensures.bound, power_order c.format_of-b.result.width 48 c.format_of-b.ensures.input.most)) in
    omega (arith, all)

pub size_with-requires-clause-size : goal.size_with-requires-clause-size
size_with-requires-clause-size c =
    products c.size_of.result c.size_of-2.result 48 48
    (omega (arith, c.size_of.ensures.bound, power_order c.format_of-a.result.width 48 c.format_of-a.ensures.input.most))
    (omega (arith, c.size_of-2.ensures.bound, power_order c.format_of-b.result.width 48 c.format_of-b.ensures.input.most))

pub returns : goal.returns
returns c =
    let s = c.args.sop.now in
    let t = c.args.times in
    let a = c.format_of-a.result in
    let b = c.format_of-b.result in
    let input_a = c.format_of-a.ensures.input in
    let input_b = c.format_of-b.ensures.input in
    let out = c.requires.sop.numbers.out_lsb in
    let fits_den : FitsSigned w64 s.den = omega (arith, ints, c.requires.sop.numbers.positive, c.requires.sop.numbers.small) in
    let fits_a : FitsSigned w32 a.lsb = omega (arith, ints, input_a.lsb.0, input_a.lsb.1) in
    let fits_b : FitsSigned w32 b.lsb = omega (arith, ints, input_b.lsb.0, input_b.lsb.1) in
    let fits_out : FitsSigned w32 s.out_lsb = omega (arith, ints, out.0, out.1) in
    let fits_sum : FitsSigned w32 (a.lsb +ℤ b.lsb) =
    omega (arith, ints, input_a.lsb.0, input_a.lsb.1, input_b.lsb.0, input_b.lsb.1) in
    let fits_shift : FitsSigned w32 ((a.lsb +ℤ b.lsb) -ℤ s.out_lsb) =
    omega (arith, ints, input_a.lsb.0, input_a.lsb.1, input_b.lsb.0, input_b.lsb.1, out.0, out.1) in
    let fits_negated : FitsSigned w128 c.negated.result = search rules in
    let fits_positive : FitsSigned w128 c.positive.result = search rules in
    let fits_least : FitsSigned w128 c.over.result = search rules in
    let fits_most : FitsSigned w128 c.over-2.result = search rules in
    let reach : c.turned-reach.result ≡ turned_if t.negative (times_reach s t) =
    c.turned-reach.ensures ∙ ap (turned_if t.negative) c.times_reach.ensures.value in
    let below : c.negated.result ≡ neg_ℤ (pos (turned_if t.negative (times_reach s t)).below) =
    c.negated.ensures ∙ ap (λ (r : Reach). neg_ℤ (pos r.below)) reach in
    let above : c.positive.result ≡ pos (turned_if t.negative (times_reach s t)).above =
    c.positive.ensures ∙ ap (λ (r : Reach). pos r.above) reach in
    let least : c.over.result ≡ s.den *ℤ neg_ℤ (pos (turned_if t.negative (times_reach s t)).below) =
    (simp to_z-of_z at c.over.ensures) ∙ ap (λ n. s.den *ℤ n) below in
    let most : c.over-2.result ≡ s.den *ℤ pos (turned_if t.negative (times_reach s t)).above =
    (simp to_z-of_z at c.over-2.ensures) ∙ ap (λ n. s.den *ℤ n) above in
    let size : c.size_with.result ≡ unsigned_abs s.den * (size_of a * size_of b) =
    (simp to_z-of_z at c.size_with.ensures) ∙ ap (λ k. unsigned_abs s.den * (k * c.size_of-2.result)) c.size_of.ensures.value
    ∙ ap (λ k. unsigned_abs s.den * (size_of a * k)) c.size_of-2.ensures.value in
    let same_a : a ≡ format_of s t.a = c.format_of-a.ensures.value in
    let same_b : b ≡ format_of s t.b = c.format_of-b.ensures.value in
    simp to_z-of_z (rw (least, most, size, same_a, same_b) refl)
