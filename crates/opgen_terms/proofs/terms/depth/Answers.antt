use Rattle.std.proofs.Common.{◌≡◌, ◌<◌, ◌∙◌, ap, length, max, arith, FitsSigned, rules}
use Rattle.std.specs.Int.{w32}
use Rattle.std.proofs.lemmas.Int.{to_z-of_z}
use Rattle.opgen_terms.specs.declared.terms.Term.{Term as PlainTerm}
use Rattle.opgen_terms.specs.Sop.{Term, terms_of, term_at, offset_term}
use Rattle.opgen_ports.specs.Reaches.{places_down}
use Rattle.opgen_terms.proofs.AllTerms.{depth_few, greatest_next}
use Rattle.opgen_terms.proofs.terms.depth.Goals as goal

pub terms-preserved : goal.terms-preserved
terms-preserved c =
    let s = c.args.sop.now in
    let place = c.terms.place in
    let here : place < length (terms_of s) = omega (arith, c.terms-test.true, c.count-place-end.ensures.value) in
    let fits : FitsSigned w32 c.term_at.result.shift = search rules in
    let down : c.places_down.result ≡ places_down (term_at s place).shift =
    (simp to_z-of_z at c.places_down.ensures) ∙ ap (λ (t : PlainTerm). places_down t.shift) c.term_at.ensures in
    let next = greatest_next (λ (t : Term). places_down t.shift) (terms_of s) place (offset_term s) here in
    let most : c.max-depth.result ≡ max c.terms.depth c.places_down.result = c.max-depth.ensures in
    omega (arith, c.terms.invariant, next, down, most)

pub returns-clause-bound : goal.returns-clause-bound
returns-clause-bound c = omega (arith, c.terms.invariant, depth_few c.args.sop.now c.requires.shift)
