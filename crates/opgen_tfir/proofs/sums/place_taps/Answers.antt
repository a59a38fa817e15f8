use Rattle.std.proofs.Common.{◌≡◌, ℕ, ◌+◌, ◌-◌, ◌<◌, ◌^◌, ◌∷◌, drop, get_or, FitsSigned, sym, ap, ◌∙◌, subst, arith}
use Rattle.std.specs.Prelude.{ℤ, pos, slice_index}
use Rattle.std.specs.Int.{w64}
use Rattle.std.proofs.lemmas.Int.{ints, to_z-of_z}
use Rattle.std.proofs.lemmas.List.{drop_more}
use Rattle.opgen_net.specs.declared.net.Net.{Net}
use Rattle.opgen_net.specs.Placed.{Placed}
use Rattle.opgen_net.specs.Valid.{widths}
use Rattle.opgen_tfir.specs.Recipe.{sum_width as sum_width_of, first_product as first_product_of, with_tap, with_taps}
use Rattle.opgen_tfir.specs.Steps.{HasProducts}
use Rattle.opgen_tfir.proofs.Chains.{taps-last}
use Rattle.opgen_tfir.proofs.Steps.{taps-drop, tail-slice, placed-is, sum, sum-placed, products-now, next-sum}
use Rattle.opgen_tfir.proofs.Widths.{half-fits}
use Rattle.opgen_tfir.proofs.sums.place_taps.Goals as goal

pub first_product-requires-clause-half : goal.first_product-requires-clause-half
first_product-requires-clause-half c =
    let p = c.args.products.now in
    let ts = drop c.last_tap-last.result c.args.taps.now in
    let are = taps-drop p c.args.taps.now c.last_tap-last.result c.requires.taps in
    let width = c.sum_width-width.ensures.value ∙ ap (sum_width_of p) (tail-slice c.last_tap-last.result c.args.taps.now) in
    subst (λ n. p.half < 2 ^ n) (sym width) (half-fits p c.requires.products.widths ts are.few are.small)

pub taps-init : goal.taps-init
taps-init c =
    let p = c.args.products.now in
    let net = c.args.net.now in
    let taps = c.args.taps.now in
    let last = c.last_tap-last.result in
    let is = c.last_tap-last.ensures in
    let t : ℤ = get_or taps last (pos 0) in
    let few = c.requires.taps.small last (pos 0) is.within in
    let fits : FitsSigned w64 t = omega (arith, ints, few) in
    let width = c.sum_width-width.ensures.value ∙ ap (sum_width_of p) (tail-slice last taps) in
    let list : drop last taps ≡ t ∷ drop (last + 1) taps = drop_more taps last (pos 0) is.within in
    let same : first_product_of p c.sum_width-width.result net t ≡ with_taps p net (drop last taps) =
    ap (λ (n : ℕ). first_product_of p n net t) (width ∙ ap (sum_width_of p) list)
    ∙ sym (ap (with_taps p net) list ∙ taps-last p net t (drop (last + 1) taps) is.zeros) in
    record {
      valid = c.in_ok-sum.ensures.valid;
      same = (simp to_z-of_z at c.in_ok-sum.ensures.ok) ∙ ap (λ (q : Placed). q.net) same;
      sum = (simp to_z-of_z at c.in_ok-sum.ensures.place) ∙ ap (λ (q : Placed). q.place) same;
    }

pub next_sum-requires-clause-products : goal.next_sum-requires-clause-products
next_sum-requires-clause-products c =
    let p = c.args.products.now in
    let now = products-now p c.args.net.now c.requires.net c.requires.products c.args.taps.now c.requires.taps c.last_tap-last.result
    c.last_tap-last.ensures c.taps.place c.taps-test.true c.taps.auto.place in
    subst (λ (n : Net). HasProducts n p) (sym c.taps.invariant.same) now

pub next_sum-requires-clause-sum : goal.next_sum-requires-clause-sum
next_sum-requires-clause-sum c =
    let p = c.args.products.now in
    let k = c.taps.place in
    let next : k - 1 + 1 ≡ k = omega (arith, c.taps-test.true) in
    let made = sum-placed p c.args.net.now c.requires.net c.requires.products c.args.taps.now c.requires.taps c.last_tap-last.result
    c.last_tap-last.ensures k c.taps-test.true c.taps.auto.place in
    let z = sum p c.args.net.now c.requires.net c.requires.products c.args.taps.now c.requires.taps c.last_tap-last.result
    c.last_tap-last.ensures k c.taps-test.true c.taps.auto.place in
    let same = placed-is c.taps.net z.net c.taps.sum z.place c.taps.invariant.same c.taps.invariant.sum in
    ap (λ (q : Placed). slice_index (widths q.net.nodes) q.place) same
    ∙ made.width
    ∙ sym (ap (λ n. sum_width_of p (drop n c.args.taps.now)) next)

pub taps-preserved : goal.taps-preserved
taps-preserved c =
    let p = c.args.products.now in
    let net = c.args.net.now in
    let taps = c.args.taps.now in
    let last = c.last_tap-last.result in
    let k = c.taps.place in
    let t : ℤ = get_or taps (k - 1) (pos 0) in
    let z = sum p net c.requires.net c.requires.products taps c.requires.taps last c.last_tap-last.ensures k
    c.taps-test.true c.taps.auto.place in
    let same = placed-is c.taps.net z.net c.taps.sum z.place c.taps.invariant.same c.taps.invariant.sum in
    let is : with_tap p t (drop (k - 1 + 1) taps) (record { net = c.taps.net; place = c.taps.sum }) ≡ with_taps p net (drop (k - 1) taps) =
    ap (λ (q : Placed). with_tap p t (drop (k - 1 + 1) taps) q) same
    ∙ next-sum p net c.requires.net c.requires.products taps c.requires.taps last c.last_tap-last.ensures k c.taps-test.true c.taps.auto.place in
    record {
      valid = c.in_ok-sum-2.ensures.valid;
      same = c.in_ok-sum-2.ensures.ok ∙ ap (λ (q : Placed). q.net) is;
      sum = c.in_ok-sum-2.ensures.place ∙ ap (λ (q : Placed). q.place) is;
    }
