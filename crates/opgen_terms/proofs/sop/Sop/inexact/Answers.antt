use Rattle.std.proofs.Common.{◌≡◌, ◌<◌, ◌+◌, ◌∙◌, true, false, not, cond, Some, drop, length, ap, sym, arith, FitsSigned, rules}
use Rattle.std.specs.Int.{w32, w64}
use Rattle.std.specs.List.{position_from}
use Rattle.std.proofs.lemmas.Int.{ints, to_z-of_z}
use Rattle.opgen_terms.specs.declared.terms.Term.{Term as PlainTerm}
use Rattle.opgen_ports.specs.Reaches.{is_whole_at}
use Rattle.opgen_terms.specs.Sop.{Term, terms_of, term_at, offset_term}
use Rattle.opgen_terms.proofs.EachTerm.{sized}
use Rattle.opgen_terms.proofs.AllTerms.{position_next}
use Rattle.opgen_terms.proofs.sop.Sop.inexact.Goals as goal

pub is_whole-requires-clause-coef : goal.is_whole-requires-clause-coef
is_whole-requires-clause-coef c =
    let s = c.args.self.now in
    let fits : FitsSigned w64 c.term_at-term.result.factor = search rules in
    let same = ap (λ (t : PlainTerm). t.factor) c.term_at-term.ensures in
    simp to_z-of_z (rw same (sized s c.terms.place c.requires).factor)

pub returns-then-not-is_whole : goal.returns-then-not-is_whole
returns-then-not-is_whole c =
    let s = c.args.self.now in
    let place = c.terms.place in
    let here : place < length (terms_of s) = omega (arith, c.terms-test.true, c.count-place-end.ensures.value) in
    let fits_factor : FitsSigned w64 c.term_at-term.result.factor = search rules in
    let fits_shift : FitsSigned w32 c.term_at-term.result.shift = search rules in
    let fits_den : FitsSigned w64 s.den = omega (arith, ints, c.requires.numbers.positive, c.requires.numbers.small) in
    let t = term_at s place in
    let no : false ≡ is_whole_at s.den t.shift t.factor =
    (simp to_z-of_z at c.if-not-is_whole.ensures) ∙ ap (λ (u : PlainTerm). is_whole_at s.den u.shift u.factor) c.term_at-term.ensures in
    let test = λ (u : Term). not (is_whole_at s.den u.shift u.factor) in
    let rest = position_from test (place + 1) (drop (place + 1) (terms_of s)) in
    let next = position_next test (terms_of s) place place (offset_term s) here in
    ap (λ b. cond (not b) (Some place) rest) no ∙ sym next ∙ c.terms.invariant

pub terms-preserved : goal.terms-preserved
terms-preserved c =
    let s = c.args.self.now in
    let place = c.terms.place in
    let here : place < length (terms_of s) = omega (arith, c.terms-test.true, c.count-place-end.ensures.value) in
    let fits_factor : FitsSigned w64 c.term_at-term.result.factor = search rules in
    let fits_shift : FitsSigned w32 c.term_at-term.result.shift = search rules in
    let fits_den : FitsSigned w64 s.den = omega (arith, ints, c.requires.numbers.positive, c.requires.numbers.small) in
    let t = term_at s place in
    let yes : true ≡ is_whole_at s.den t.shift t.factor =
    (simp to_z-of_z at c.if-not-is_whole.ensures) ∙ ap (λ (u : PlainTerm). is_whole_at s.den u.shift u.factor) c.term_at-term.ensures in
    let test = λ (u : Term). not (is_whole_at s.den u.shift u.factor) in
    let rest = position_from test (place + 1) (drop (place + 1) (terms_of s)) in
    let next = position_next test (terms_of s) place place (offset_term s) here in
    ap (λ b. cond (not b) (Some place) rest) yes ∙ sym next ∙ c.terms.invariant
