use Rattle.std.proofs.Common.{◌≡◌, ◌<◌, ◌+◌, ◌∙◌, Bool, true, false, not, cond, Some, drop, length, ap, sym, arith, FitsSigned, rules}
use Rattle.std.specs.Int.{w32}
use Rattle.std.specs.List.{find}
use Rattle.std.specs.Option.{unwrap_or}
use Rattle.std.specs.Prelude.{ℤ, pos, map}
use Rattle.std.proofs.lemmas.Int.{to_z-of_z}
use Rattle.opgen_terms.specs.declared.terms.Term.{Term as PlainTerm}
use Rattle.opgen_terms.specs.Sop.{Term, terms_of, term_at, offset_term, is_small_shift}
use Rattle.opgen_terms.proofs.AllTerms.{find_next}
use Rattle.opgen_terms.proofs.sop.Sop.shift.Goals as goal

abbrev test : ℤ → Bool
test shift = not (is_small_shift shift)

pub returns-then-not-is_small_shift : goal.returns-then-not-is_small_shift
returns-then-not-is_small_shift c =
    let s = c.args.self.now in
    let place = c.terms.place in
    let here : place < length (terms_of s) = omega (arith, c.terms-test.true, c.count-place-end.ensures.value) in
    let fits : FitsSigned w32 c.term_at-shift.result.shift = search rules in
    let z = (term_at s place).shift in
    let same : c.term_at-shift.result.shift ≡ z = ap (λ (t : PlainTerm). t.shift) c.term_at-shift.ensures in
    let no : false ≡ is_small_shift z = (simp to_z-of_z at c.if-not-is_small_shift.ensures) ∙ ap is_small_shift same in
    let rest = find test (map (λ (t : Term). t.shift) (drop (place + 1) (terms_of s))) in
    let next = find_next test (λ (t : Term). t.shift) (terms_of s) place (offset_term s) here in
    let found : Some z ≡ find test (map (λ (t : Term). t.shift) (terms_of s)) =
    ap (λ b. cond (not b) (Some z) rest) no ∙ sym next ∙ c.terms.invariant in
    simp to_z-of_z (same ∙ ap (λ o. unwrap_or o (pos 0)) found)

pub terms-preserved : goal.terms-preserved
terms-preserved c =
    let s = c.args.self.now in
    let place = c.terms.place in
    let here : place < length (terms_of s) = omega (arith, c.terms-test.true, c.count-place-end.ensures.value) in
    let fits : FitsSigned w32 c.term_at-shift.result.shift = search rules in
    let z = (term_at s place).shift in
    let same : c.term_at-shift.result.shift ≡ z = ap (λ (t : PlainTerm). t.shift) c.term_at-shift.ensures in
    let yes : true ≡ is_small_shift z = (simp to_z-of_z at c.if-not-is_small_shift.ensures) ∙ ap is_small_shift same in
    let rest = find test (map (λ (t : Term). t.shift) (drop (place + 1) (terms_of s))) in
    let next = find_next test (λ (t : Term). t.shift) (terms_of s) place (offset_term s) here in
    ap (λ b. cond (not b) (Some z) rest) yes ∙ sym next ∙ c.terms.invariant
