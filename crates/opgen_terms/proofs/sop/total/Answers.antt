use Rattle.std.proofs.Common.{◌≡◌, ◌<◌, ◌≤◌, ◌^◌, ◌∙◌, length, ap, arith, FitsSigned, rules}
use Rattle.std.specs.Int.{w128}
use Rattle.std.specs.Prelude.{pos, ◌*ℤ◌, ◌+ℤ◌, unsigned_abs}
use Rattle.std.proofs.lemmas.Int.{to_z-of_z}
use Rattle.opgen_terms.specs.Sop.{terms_of, term_at, height, last_numbers}
use Rattle.opgen_ports.proofs.Magnitudes.{fits_small}
use Rattle.opgen_terms.proofs.EachTerm.{number_sized}
use Rattle.opgen_terms.proofs.AllTerms.{most_bits, term_room, term_small, sum_small, sum_more}
use Rattle.opgen_terms.proofs.sop.total.Goals as goal

pub raised-total-requires-clause-small : goal.raised-total-requires-clause-small
raised-total-requires-clause-small c =
    let s = c.args.sop.now in
    let place = c.terms.place in
    let here : place < length (terms_of s) = omega (arith, c.terms-test.true, c.count-place-end.ensures.value) in
    let fits : FitsSigned w128 c.number.result = search rules in
    let small : unsigned_abs c.number.result ≤ (term_at s place).size =
    rw c.number.ensures (number_sized s c.args.history.now place c.requires.sop) in
    simp to_z-of_z (term_room s place c.requires.few here c.number.result c.height-height.result small c.height-height.ensures.value)

pub overflow_add-total : goal.overflow_add-total
overflow_add-total c =
    let s = c.args.sop.now in
    let place = c.terms.place in
    let here : place < length (terms_of s) = omega (arith, c.terms-test.true, c.count-place-end.ensures.value) in
    let t = term_at s place in
    let n = t.number (last_numbers s c.args.history.now) in
    let fits_number : FitsSigned w128 c.number.result = search rules in
    let fits_raised : FitsSigned w128 c.raised-total.result = search rules in
    let value : c.raised-total.result ≡ n *ℤ pos (2 ^ height s t) =
    (simp to_z-of_z at c.raised-total.ensures.value) ∙ ap (λ m. m *ℤ pos (2 ^ c.height-height.result)) c.number.ensures
    ∙ ap (λ k. n *ℤ pos (2 ^ k)) c.height-height.ensures.value in
    let small : unsigned_abs c.raised-total.result ≤ 2 ^ most_bits s =
    rw value (term_small s place n here (number_sized s c.args.history.now place c.requires.sop)) in
    let (next, all) = sum_small s place c.requires.few here c.terms.total c.raised-total.result
    (rw c.terms.total-is at c.terms.invariant.small) small in
    rw c.terms.total-is (simp to_z-of_z (fits_small _ (omega (arith, all))))

pub terms-preserved : goal.terms-preserved
terms-preserved c =
    let s = c.args.sop.now in
    let place = c.terms.place in
    let here : place < length (terms_of s) = omega (arith, c.terms-test.true, c.count-place-end.ensures.value) in
    let t = term_at s place in
    let n = t.number (last_numbers s c.args.history.now) in
    let fits_number : FitsSigned w128 c.number.result = search rules in
    let fits_raised : FitsSigned w128 c.raised-total.result = search rules in
    let value : c.raised-total.result ≡ n *ℤ pos (2 ^ height s t) =
    (simp to_z-of_z at c.raised-total.ensures.value) ∙ ap (λ m. m *ℤ pos (2 ^ c.height-height.result)) c.number.ensures
    ∙ ap (λ k. n *ℤ pos (2 ^ k)) c.height-height.ensures.value in
    let small : unsigned_abs c.raised-total.result ≤ 2 ^ most_bits s =
    rw value (term_small s place n here (number_sized s c.args.history.now place c.requires.sop)) in
    let (next, all) = sum_small s place c.requires.few here c.terms.total c.raised-total.result
    (rw c.terms.total-is at c.terms.invariant.small) small in
    let fits_sum : FitsSigned w128 (c.terms.total +ℤ c.raised-total.result) = fits_small _ (omega (arith, all)) in
    let so_far = rw c.terms.total-is at c.terms.invariant.value in
    rw c.terms.total-is (simp to_z-of_z (record {
      value = sum_more s place (λ u. u.number (last_numbers s c.args.history.now) *ℤ pos (2 ^ height s u)) c.terms.total c.raised-total.result _ here
          value so_far;
      small = next;
    }))
