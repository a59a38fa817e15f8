use Rattle.std.proofs.Common.{◌*◌, ◌≤◌, unsigned_abs, ap, ◌∙◌, subst, arith}
use Rattle.std.specs.Int.{w128}
use Rattle.std.proofs.lemmas.Int.{to_z-of_z}
use Rattle.opgen_partial.specs.declared.pairs.Placing.{Placing}
use Rattle.opgen_partial.specs.declared.pairs.Products.{Products}
use Rattle.opgen_partial.specs.Recipe.{correction}
use Rattle.opgen_terms.specs.Sop.{times_term}
use Rattle.opgen_sop.specs.Sizes.{products, placing}
use Rattle.opgen_sop.proofs.Sizes.{correction-size, products-size, room}
use Rattle.opgen_sop.proofs.fractions.turned_fraction.Goals as goal

pub raised-requires-clause-small : goal.raised-requires-clause-small
raised-requires-clause-small c =
    let s = c.args.sop.now in
    let t = c.args.term in
    let g = c.args.guard in
    let p = products s g t in
    let f = placing s g t in
    let a : 1 ≤ p.a.width = subst (λ (q : Products). 1 ≤ q.a.width) c.products.ensures.value c.products.ensures.a.0 in
    let b : 1 ≤ p.b.width = subst (λ (q : Products). 1 ≤ q.b.width) c.products.ensures.value c.products.ensures.b.0 in
    let number = to_z-of_z w128 c.placed_correction-correction.result (record { sfits = c.placed_correction-correction.type_inv })
    ∙ c.placed_correction-correction.ensures.value
    ∙ ap (λ q. correction q c.placing-placing.result) c.products.ensures.value
    ∙ ap (correction p) c.placing-placing.ensures.value in
    let most : unsigned_abs (correction p f) ≤ 8 * (times_term s t).size =
    omega (arith, correction-size p f a b, products-size s t c.requires.sop a b) in
    let few = room s (times_term s t) g (unsigned_abs (correction p f)) 8 c.requires.term.small c.requires.guard most (omega arith) in
    rw (number, ap (λ (q : Placing). q.raised) c.placing-placing.ensures.value) (omega (arith, few))
