use Rattle.std.proofs.Common.{◌≡◌, ◌<◌, ◌+◌, ◌∙◌, ap, length, max, arith}
use Rattle.opgen_terms.specs.declared.terms.Term.{Term as PlainTerm}
use Rattle.opgen_num.specs.Formats.{digit_count}
use Rattle.opgen_terms.specs.Sop.{terms_of, term_at, offset_term}
use Rattle.opgen_terms.proofs.AllTerms.{bits_of, greatest_next}
use Rattle.opgen_terms.proofs.terms.total_bits.Goals as goal

pub height-requires-clause-place : goal.height-requires-clause-place
height-requires-clause-place c = omega (arith, c.terms-test.true, c.count-place-end.ensures.value)

pub terms-preserved : goal.terms-preserved
terms-preserved c =
    let s = c.args.sop.now in
    let place = c.terms.place in
    let here : place < length (terms_of s) = omega (arith, c.terms-test.true, c.count-place-end.ensures.value) in
    let digits : c.digit_count.result ≡ digit_count (term_at s place).size =
    c.digit_count.ensures.value ∙ ap (λ (t : PlainTerm). digit_count t.size) c.term_at-size.ensures in
    let next = greatest_next (bits_of s) (terms_of s) place (offset_term s) here in
    let most : c.max-bits.result ≡ max c.terms.bits (c.digit_count.result + c.height.result) = c.max-bits.ensures in record {
      value = omega (arith, c.terms.invariant.value, next, digits, c.height.ensures.value, most);
      bound = omega (arith, c.terms.invariant.bound, c.digit_count.ensures.bound, c.height.ensures.bound, most);
    }
