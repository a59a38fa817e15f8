use Rattle.std.proofs.Common.{sym, ap, ◌∙◌, subst, arith}
use Rattle.std.specs.Int.{w128}
use Rattle.std.proofs.lemmas.Int.{to_z-of_z}
use Rattle.opgen_design.specs.Value.{IsWidth}
use Rattle.opgen_heap.specs.Adding.{with_constant}
use Rattle.opgen_partial.specs.declared.pairs.Products.{Products}
use Rattle.opgen_partial.specs.Law.{AreFactors, HasPlaced}
use Rattle.opgen_sop.specs.Sizes.{products, placing, floor}
use Rattle.opgen_sop.specs.Summed.{Stands, HasTimes}
use Rattle.opgen_sop.proofs.ProductTerm.{are-factors, times-stands, times-sum}
use Rattle.opgen_sop.proofs.products.add_times.Goals as goal

pub add_placed-requires-clause-factors : goal.add_placed-requires-clause-factors
add_placed-requires-clause-factors c =
    let s = c.args.sop.now in
    let t = c.args.term in
    let g = c.args.guard in
    let v = c.products-products.ensures in
    let p = c.products-products.result in
    let a : IsWidth p.a.width = (v.a.0, omega (arith, v.a.1)) in
    let b : IsWidth p.b.width = (v.b.0, omega (arith, v.b.1)) in
    subst (λ p. AreFactors p c.args.work.now.net) (sym v.value)
    (are-factors s g t c.requires.sop c.requires.term c.args.work.now c.requires.stands
    (subst (λ (q : Products). IsWidth q.a.width) v.value a) (subst (λ (q : Products). IsWidth q.b.width) v.value b))

pub returns-clause-stands : goal.returns-clause-stands
returns-clause-stands c =
    let s = c.args.sop.now in
    let t = c.args.term in
    let g = c.args.guard in
    let old = c.args.work.now in
    let mid = c.add_placed.new.work in
    let has : HasPlaced (products s g t) (placing s g t) old mid =
    subst (λ f. HasPlaced (products s g t) f old mid) c.placing.ensures.value
    (subst (λ p. HasPlaced p c.placing.result old mid) c.products-products.ensures.value c.in_ok-add_placed.ensures.products) in
    let k = to_z-of_z w128 c.floor.result (record { sfits = c.floor.type_inv }) ∙ c.floor.ensures ∙ ap floor c.turned_fraction.ensures.value in
    let is = ap (λ h. record { net = mid.net; heap = h }) (c.add_constant.ensures.value ∙ ap (with_constant mid.heap) k) in
    subst (Stands s g) (sym is) (times-stands s g t c.requires.sop c.requires.term old mid c.requires.stands has)

pub returns-clause-sum : goal.returns-clause-sum
returns-clause-sum c =
    let s = c.args.sop.now in
    let t = c.args.term in
    let g = c.args.guard in
    let old = c.args.work.now in
    let mid = c.add_placed.new.work in
    let has : HasPlaced (products s g t) (placing s g t) old mid =
    subst (λ f. HasPlaced (products s g t) f old mid) c.placing.ensures.value
    (subst (λ p. HasPlaced p c.placing.result old mid) c.products-products.ensures.value c.in_ok-add_placed.ensures.products) in
    let k = to_z-of_z w128 c.floor.result (record { sfits = c.floor.type_inv }) ∙ c.floor.ensures ∙ ap floor c.turned_fraction.ensures.value in
    let is = ap (λ h. record { net = mid.net; heap = h }) (c.add_constant.ensures.value ∙ ap (with_constant mid.heap) k) in
    subst (HasTimes s g t old) (sym is) (times-sum s g t c.requires.sop c.requires.term old mid c.requires.stands has)
