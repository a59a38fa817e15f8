use Rattle.std.proofs.Common.{◌≡◌, ◌<◌, ◌≤◌, ◌^◌, ◌∙◌, length, ap, arith, FitsSigned, rules}
use Rattle.std.specs.Int.{w128}
use Rattle.std.specs.Prelude.{pos, ◌*ℤ◌, ◌+ℤ◌, unsigned_abs}
use Rattle.std.proofs.lemmas.Int.{to_z-of_z}
use Rattle.opgen_terms.specs.declared.terms.Term.{Term as PlainTerm}
use Rattle.opgen_terms.specs.Sop.{terms_of, term_at, height}
use Rattle.opgen_ports.proofs.Magnitudes.{fits_small}
use Rattle.opgen_terms.proofs.EachTerm.{sized}
use Rattle.opgen_terms.proofs.AllTerms.{most_bits, term_room, term_small, sum_small, sum_more, together}
use Rattle.opgen_terms.proofs.sop.ends.Goals as goal

pub raised-least-requires-clause-small : goal.raised-least-requires-clause-small
raised-least-requires-clause-small c =
    let s = c.args.sop.now in
    let place = c.terms.place in
    let here : place < length (terms_of s) = omega (arith, c.terms-test.true, c.count-place-end.ensures.value) in
    let t = term_at s place in
    let fits : FitsSigned w128 c.term_at-term.result.least = search rules in
    let same : c.term_at-term.result.least ≡ t.least = ap (λ (u : PlainTerm). u.least) c.term_at-term.ensures in
    let small : unsigned_abs c.term_at-term.result.least ≤ t.size = rw same (sized s place c.requires.sop).least in
    simp to_z-of_z (term_room s place c.requires.few here c.term_at-term.result.least c.height-height.result small c.height-height.ensures.value)

pub overflow_add-least : goal.overflow_add-least
overflow_add-least c =
    let s = c.args.sop.now in
    let place = c.terms.place in
    let here : place < length (terms_of s) = omega (arith, c.terms-test.true, c.count-place-end.ensures.value) in
    let t = term_at s place in
    let fits_least : FitsSigned w128 c.term_at-term.result.least = search rules in
    let fits_raised_least : FitsSigned w128 c.raised-least.result = search rules in
    let least_is : c.raised-least.result ≡ t.least *ℤ pos (2 ^ height s t) =
    (simp to_z-of_z at c.raised-least.ensures.value) ∙ ap (λ (u : PlainTerm). u.least *ℤ pos (2 ^ c.height-height.result)) c.term_at-term.ensures
    ∙ ap (λ k. t.least *ℤ pos (2 ^ k)) c.height-height.ensures.value in
    let least_small : unsigned_abs c.raised-least.result ≤ 2 ^ most_bits s =
    rw least_is (term_small s place t.least here (sized s place c.requires.sop).least) in
    let (least_next, least_all) = sum_small s place c.requires.few here c.terms.least c.raised-least.result
    (rw c.terms.least-is at c.terms.invariant.least_small) least_small in
    rw c.terms.least-is (simp to_z-of_z (fits_small _ (omega (arith, least_all))))

pub raised-most-requires-clause-small : goal.raised-most-requires-clause-small
raised-most-requires-clause-small c =
    let s = c.args.sop.now in
    let place = c.terms.place in
    let here : place < length (terms_of s) = omega (arith, c.terms-test.true, c.count-place-end.ensures.value) in
    let t = term_at s place in
    let fits : FitsSigned w128 c.term_at-term.result.most = search rules in
    let same : c.term_at-term.result.most ≡ t.most = ap (λ (u : PlainTerm). u.most) c.term_at-term.ensures in
    let small : unsigned_abs c.term_at-term.result.most ≤ t.size = rw same (sized s place c.requires.sop).most in
    simp to_z-of_z (term_room s place c.requires.few here c.term_at-term.result.most c.height-height.result small c.height-height.ensures.value)

pub overflow_add-most : goal.overflow_add-most
overflow_add-most c =
    let s = c.args.sop.now in
    let place = c.terms.place in
    let here : place < length (terms_of s) = omega (arith, c.terms-test.true, c.count-place-end.ensures.value) in
    let t = term_at s place in
    let fits_most : FitsSigned w128 c.term_at-term.result.most = search rules in
    let fits_raised_most : FitsSigned w128 c.raised-most.result = search rules in
    let most_is : c.raised-most.result ≡ t.most *ℤ pos (2 ^ height s t) =
    (simp to_z-of_z at c.raised-most.ensures.value) ∙ ap (λ (u : PlainTerm). u.most *ℤ pos (2 ^ c.height-height.result)) c.term_at-term.ensures
    ∙ ap (λ k. t.most *ℤ pos (2 ^ k)) c.height-height.ensures.value in
    let most_small : unsigned_abs c.raised-most.result ≤ 2 ^ most_bits s =
    rw most_is (term_small s place t.most here (sized s place c.requires.sop).most) in
    let (most_next, most_all) = sum_small s place c.requires.few here c.terms.most c.raised-most.result
    (rw c.terms.most-is at c.terms.invariant.most_small) most_small in
    rw c.terms.most-is (simp to_z-of_z (fits_small _ (omega (arith, most_all))))

pub terms-preserved : goal.terms-preserved
terms-preserved c =
    let s = c.args.sop.now in
    let place = c.terms.place in
    let here : place < length (terms_of s) = omega (arith, c.terms-test.true, c.count-place-end.ensures.value) in
    let t = term_at s place in
    let fits_least : FitsSigned w128 c.term_at-term.result.least = search rules in
    let fits_raised_least : FitsSigned w128 c.raised-least.result = search rules in
    let least_is : c.raised-least.result ≡ t.least *ℤ pos (2 ^ height s t) =
    (simp to_z-of_z at c.raised-least.ensures.value) ∙ ap (λ (u : PlainTerm). u.least *ℤ pos (2 ^ c.height-height.result)) c.term_at-term.ensures
    ∙ ap (λ k. t.least *ℤ pos (2 ^ k)) c.height-height.ensures.value in
    let least_small : unsigned_abs c.raised-least.result ≤ 2 ^ most_bits s =
    rw least_is (term_small s place t.least here (sized s place c.requires.sop).least) in
    let (least_next, least_all) = sum_small s place c.requires.few here c.terms.least c.raised-least.result
    (rw c.terms.least-is at c.terms.invariant.least_small) least_small in
    let fits_most : FitsSigned w128 c.term_at-term.result.most = search rules in
    let fits_raised_most : FitsSigned w128 c.raised-most.result = search rules in
    let most_is : c.raised-most.result ≡ t.most *ℤ pos (2 ^ height s t) =
    (simp to_z-of_z at c.raised-most.ensures.value) ∙ ap (λ (u : PlainTerm). u.most *ℤ pos (2 ^ c.height-height.result)) c.term_at-term.ensures
    ∙ ap (λ k. t.most *ℤ pos (2 ^ k)) c.height-height.ensures.value in
    let most_small : unsigned_abs c.raised-most.result ≤ 2 ^ most_bits s =
    rw most_is (term_small s place t.most here (sized s place c.requires.sop).most) in
    let (most_next, most_all) = sum_small s place c.requires.few here c.terms.most c.raised-most.result
    (rw c.terms.most-is at c.terms.invariant.most_small) most_small in
    let fits_least_sum : FitsSigned w128 (c.terms.least +ℤ c.raised-least.result) = fits_small _ (omega (arith, least_all)) in
    let fits_most_sum : FitsSigned w128 (c.terms.most +ℤ c.raised-most.result) = fits_small _ (omega (arith, most_all)) in
    let least_so_far = rw c.terms.least-is at c.terms.invariant.least in
    let most_so_far = rw c.terms.most-is at c.terms.invariant.most in
    rw (c.terms.least-is, c.terms.most-is) (simp to_z-of_z (record {
      least = sum_more s place (λ u. u.least *ℤ pos (2 ^ height s u)) c.terms.least c.raised-least.result _ here least_is least_so_far;
      most = sum_more s place (λ u. u.most *ℤ pos (2 ^ height s u)) c.terms.most c.raised-most.result _ here most_is most_so_far;
      least_small = least_next;
      most_small = most_next;
    }))

pub returns-clause-least_small : goal.returns-clause-least_small
returns-clause-least_small c =
    together c.args.sop.now _ c.terms.place c.requires.few (omega (arith, c.terms.auto.place-end, c.count-place-end.ensures.value))
    c.terms.invariant.least_small

pub returns-clause-most_small : goal.returns-clause-most_small
returns-clause-most_small c =
    together c.args.sop.now _ c.terms.place c.requires.few (omega (arith, c.terms.auto.place-end, c.count-place-end.ensures.value))
    c.terms.invariant.most_small
