use Rattle.std.proofs.Common.{ℕ, ◌+◌, ◌∷◌, drop, get_or, FitsSigned, sym, ap, ◌∙◌, subst, arith}
use Rattle.std.specs.Prelude.{ℤ, pos, slice_index}
use Rattle.std.specs.Int.{w64}
use Rattle.std.proofs.lemmas.Int.{ints, to_z-of_z}
use Rattle.std.proofs.lemmas.Result.{IfOk-weaker, on_ok_weaker}
use Rattle.opgen_num.specs.declared.format.Format.{Format}
use Rattle.opgen_net.specs.declared.net.Net.{Net}
use Rattle.opgen_net.specs.Placed.{Placed}
use Rattle.opgen_net.specs.Valid.{widths}
use Rattle.opgen_tfir.specs.Recipe.{own_format as own_format_of, sum_width as sum_width_of, delayed}
use Rattle.opgen_tfir.specs.Steps.{HasProducts}
use Rattle.opgen_tfir.proofs.Steps.{tail-slice, product-is, list-at, there, late-at, wider-is, wider-width, wider-products}
use Rattle.opgen_tfir.proofs.sums.next_sum.Goals as goal

pub delay-requires-clause-there : goal.delay-requires-clause-there
delay-requires-clause-there c =
    let a = c.args in
    there a.products.now a.net.now c.requires.net c.requires.products a.taps.now c.requires.taps a.place a.sum c.requires.place c.requires.sum

pub widened-requires-clause-node : goal.widened-requires-clause-node
widened-requires-clause-node c =
    let a = c.args in
    let p = a.products.now in
    let late = delayed (record { net = a.net.now; place = a.sum }) in
    let from = c.sum_width-from.ensures.value ∙ ap (sum_width_of p) (tail-slice (a.place + 1) a.taps.now) in
    ap (λ (n : Net). slice_index (widths n.nodes) c.in_ok-delayed.delayed) c.in_ok-delayed.ensures.ok
    ∙ ap (λ (k : ℕ). slice_index (widths late.net.nodes) k) c.in_ok-delayed.ensures.place
    ∙ (late-at p a.net.now c.requires.net c.requires.products a.taps.now c.requires.taps a.place a.sum c.requires.place c.requires.sum).width
    ∙ sym from

pub add_product-requires-clause-products : goal.add_product-requires-clause-products
add_product-requires-clause-products c =
    let a = c.args in
    let p = a.products.now in
    let from = c.sum_width-from.ensures.value ∙ ap (sum_width_of p) (tail-slice (a.place + 1) a.taps.now) in
    let all = c.sum_width-width.ensures.value ∙ ap (sum_width_of p) (tail-slice a.place a.taps.now) in
    let own = c.own_format-signed.ensures.value ∙ ap (own_format_of p) (tail-slice (a.place + 1) a.taps.now) in
    let is =
    wider-is p a.net.now c.requires.net c.requires.products a.taps.now c.requires.taps a.place a.sum c.requires.place c.requires.sum
    c.delay.new.self c.widened.new.net c.in_ok-delayed.delayed c.in_ok-wider.wider c.sum_width-from.result c.sum_width-width.result
    c.own_format-signed.result.signed c.in_ok-delayed.ensures.ok c.in_ok-delayed.ensures.place (ap (λ (f : Format). f.signed) own) from all
    c.in_ok-wider.ensures.ok c.in_ok-wider.ensures.place in
    subst (λ (q : Placed). HasProducts q.net p) (sym is)
    (wider-products p a.net.now c.requires.net c.requires.products a.taps.now c.requires.taps a.place a.sum c.requires.place c.requires.sum)

pub add_product-requires-clause-node : goal.add_product-requires-clause-node
add_product-requires-clause-node c =
    let a = c.args in
    let p = a.products.now in
    let list = list-at p a.net.now c.requires.net c.requires.products a.taps.now c.requires.taps a.place a.sum c.requires.place c.requires.sum in
    let from = c.sum_width-from.ensures.value ∙ ap (sum_width_of p) (tail-slice (a.place + 1) a.taps.now) in
    let all = c.sum_width-width.ensures.value ∙ ap (sum_width_of p) (tail-slice a.place a.taps.now) in
    let own = c.own_format-signed.ensures.value ∙ ap (own_format_of p) (tail-slice (a.place + 1) a.taps.now) in
    let is =
    wider-is p a.net.now c.requires.net c.requires.products a.taps.now c.requires.taps a.place a.sum c.requires.place c.requires.sum
    c.delay.new.self c.widened.new.net c.in_ok-delayed.delayed c.in_ok-wider.wider c.sum_width-from.result c.sum_width-width.result
    c.own_format-signed.result.signed c.in_ok-delayed.ensures.ok c.in_ok-delayed.ensures.place (ap (λ (f : Format). f.signed) own) from all
    c.in_ok-wider.ensures.ok c.in_ok-wider.ensures.place in
    ap (λ (q : Placed). slice_index (widths q.net.nodes) q.place) is
    ∙ wider-width p a.net.now c.requires.net c.requires.products a.taps.now c.requires.taps a.place a.sum c.requires.place c.requires.sum
    ∙ sym (all ∙ ap (sum_width_of p) list)

pub returns-clause-ok : goal.returns-clause-ok
returns-clause-ok c =
    let a = c.args in
    let p = a.products.now in
    let t : ℤ = get_or a.taps.now a.place (pos 0) in
    let few = c.requires.taps.small a.place (pos 0) (omega (arith, c.requires.place)) in
    let fits : FitsSigned w64 t = omega (arith, ints, few) in
    let list = list-at p a.net.now c.requires.net c.requires.products a.taps.now c.requires.taps a.place a.sum c.requires.place c.requires.sum in
    let from = c.sum_width-from.ensures.value ∙ ap (sum_width_of p) (tail-slice (a.place + 1) a.taps.now) in
    let all = c.sum_width-width.ensures.value ∙ ap (sum_width_of p) (tail-slice a.place a.taps.now) in
    let own = c.own_format-signed.ensures.value ∙ ap (own_format_of p) (tail-slice (a.place + 1) a.taps.now) in
    let is =
    wider-is p a.net.now c.requires.net c.requires.products a.taps.now c.requires.taps a.place a.sum c.requires.place c.requires.sum
    c.delay.new.self c.widened.new.net c.in_ok-delayed.delayed c.in_ok-wider.wider c.sum_width-from.result c.sum_width-width.result
    c.own_format-signed.result.signed c.in_ok-delayed.ensures.ok c.in_ok-delayed.ensures.place (ap (λ (f : Format). f.signed) own) from all
    c.in_ok-wider.ensures.ok c.in_ok-wider.ensures.place in
    let same =
    product-is p c.sum_width-width.result (sum_width_of p (t ∷ drop (a.place + 1) a.taps.now)) t _ _ (all ∙ ap (sum_width_of p) list) is in
    on_ok_weaker c.add_product.result (λ e. e ∙ ap (λ (q : Placed). q.net) same) (simp to_z-of_z at c.add_product.ensures.ok)

pub returns-clause-place : goal.returns-clause-place
returns-clause-place c =
    let a = c.args in
    let p = a.products.now in
    let t : ℤ = get_or a.taps.now a.place (pos 0) in
    let few = c.requires.taps.small a.place (pos 0) (omega (arith, c.requires.place)) in
    let fits : FitsSigned w64 t = omega (arith, ints, few) in
    let list = list-at p a.net.now c.requires.net c.requires.products a.taps.now c.requires.taps a.place a.sum c.requires.place c.requires.sum in
    let from = c.sum_width-from.ensures.value ∙ ap (sum_width_of p) (tail-slice (a.place + 1) a.taps.now) in
    let all = c.sum_width-width.ensures.value ∙ ap (sum_width_of p) (tail-slice a.place a.taps.now) in
    let own = c.own_format-signed.ensures.value ∙ ap (own_format_of p) (tail-slice (a.place + 1) a.taps.now) in
    let is =
    wider-is p a.net.now c.requires.net c.requires.products a.taps.now c.requires.taps a.place a.sum c.requires.place c.requires.sum
    c.delay.new.self c.widened.new.net c.in_ok-delayed.delayed c.in_ok-wider.wider c.sum_width-from.result c.sum_width-width.result
    c.own_format-signed.result.signed c.in_ok-delayed.ensures.ok c.in_ok-delayed.ensures.place (ap (λ (f : Format). f.signed) own) from all
    c.in_ok-wider.ensures.ok c.in_ok-wider.ensures.place in
    let same =
    product-is p c.sum_width-width.result (sum_width_of p (t ∷ drop (a.place + 1) a.taps.now)) t _ _ (all ∙ ap (sum_width_of p) list) is in
    IfOk-weaker c.add_product.result _ _ (λ n e. e ∙ ap (λ (q : Placed). q.place) same) (simp to_z-of_z at c.add_product.ensures.place)
