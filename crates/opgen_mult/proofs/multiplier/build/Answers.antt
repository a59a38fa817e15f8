use Rattle.std.proofs.Common.{◌≡◌, [], ◌∷◌, ◌++◌, ap, ◌∙◌, sym, subst, arith}
use Rattle.std.specs.Int.{w128}
use Rattle.std.proofs.lemmas.Int.{to_z-of_z}
use Rattle.opgen_num.specs.declared.format.Format.{Format}
use Rattle.opgen_compress.specs.Recipe.{compressed}
use Rattle.opgen_gpc.specs.Recipe.{Counting, counted_if}
use Rattle.opgen_ports.specs.Recipes.{has_counters}
use Rattle.opgen_net.specs.Delays.{delay_count}
use Rattle.opgen_net.specs.Placed.{Placed}
use Rattle.opgen_heap.specs.Adding.{with_constant}
use Rattle.opgen_heap.specs.Contents.{Contents}
use Rattle.opgen_heap.specs.Standing.{AllThere}
use Rattle.opgen_net.specs.declared.net.Net.{Net}
use Rattle.opgen_kinds.specs.Product.{product_format}
use Rattle.opgen_partial.specs.declared.pairs.Work.{Work}
use Rattle.opgen_mult.specs.Recipe.{bits_below, zeros_below, heap_width, constant, counted_product, summed, above_zeros, shifted}
use Rattle.opgen_mult.proofs.NetFits.{output_of, zeros-delays}
use Rattle.opgen_mult.proofs.HeapWidth.{layout}
use Rattle.opgen_mult.proofs.Whole.{fits_modes}
use Rattle.opgen_mult.proofs.multiplier.build.Goals as goal

pub count_if-requires-clause-there : goal.count_if-requires-clause-there
count_if-requires-clause-there c =
    let p = c.args.product.now in
    let w = c.in_ok-net.field-0 in
    let has = c.in_ok-net.ensures.products in
    subst (AllThere w.net) (sym (ap (λ (h : Contents). h.columns) c.add_constant.ensures.value)) has.there

pub above_zeros-requires-clause-node : goal.above_zeros-requires-clause-node
above_zeros-requires-clause-node c =
    let p = c.args.product.now in
    let w = c.in_ok-net.field-0 in
    let has = c.in_ok-net.ensures.products in
    c.in_ok-sum.ensures.width
    ∙ c.in_ok-counted.ensures.width
    ∙ ap (λ (h : Contents). h.width) c.add_constant.ensures.value
    ∙ has.width
    ∙ sym c.heap_width.ensures.value

pub above_zeros-requires-clause-width : goal.above_zeros-requires-clause-width
above_zeros-requires-clause-width c =
    let p = c.args.product.now in
    let fit = layout c.products_have_width.ensures p c.requires in (
      omega (arith, c.heap_width.ensures.some),
      omega (arith, c.heap_width.ensures.value, c.zeros_below.ensures.value, fit.room, fit.total),
    )

pub returns-clause-net : goal.returns-clause-net
returns-clause-net c =
    let p = c.args.product.now in
    let left = c.cut_of-cut.result.columns in
    let w = c.in_ok-net.field-0 in
    let constant_is = to_z-of_z w128 c.constant.result (record { sfits = c.constant.type_inv }) ∙ c.constant.ensures in
    let u : Counting = record { net = c.count_if.new.net; heap = c.in_ok-counted.counted } in
    let counted : u ≡ counted_product p left =
    ap (λ n. record { net = n; heap = u.heap }) c.in_ok-counted.ensures.ok
    ∙ ap (λ h. record { net = (counted_if c.has_counters.result w.net c.add_constant.new.self).net; heap = h }) c.in_ok-counted.ensures.heap
    ∙ ap (λ b. counted_if b w.net c.add_constant.new.self) c.has_counters.ensures
    ∙ ap (counted_if (has_counters p.compressor) w.net) c.add_constant.ensures.value
    ∙ ap (λ z. counted_if (has_counters p.compressor) w.net (with_constant w.heap z)) constant_is
    ∙ ap (λ (v : Work). counted_if (has_counters p.compressor) v.net (with_constant v.heap (constant p))) c.in_ok-net.ensures.ok in
    let s : Placed = record { net = c.compress.new.net; place = c.in_ok-sum.sum } in
    let sum : s ≡ summed p left =
    ap (λ n. record { net = n; place = s.place }) c.in_ok-sum.ensures.ok
    ∙ ap (λ k. record { net = (compressed u.net u.heap).net; place = k }) c.in_ok-sum.ensures.place
    ∙ ap (λ (v : Counting). compressed v.net v.heap) counted in
    let q : Placed = record { net = c.above_zeros.new.net; place = c.in_ok-node.node } in
    let above : q ≡ shifted p left =
    ap (λ n. record { net = n; place = q.place }) c.in_ok-node.ensures.ok
    ∙ ap (λ k. record { net = (above_zeros c.heap_width.result c.zeros_below.result s).net; place = k }) c.in_ok-node.ensures.place
    ∙ ap (λ k. above_zeros k c.zeros_below.result s) c.heap_width.ensures.value
    ∙ ap (λ z. above_zeros (heap_width p) z s) c.zeros_below.ensures.value
    ∙ ap (above_zeros (heap_width p) (zeros_below p)) sum in
    record {
      left_out = left;
      greatest = c.cut_of-cut.ensures.columns;
      made = c.in_ok-output.ensures.ok
          ∙ ap (λ low. record q.net { outputs = q.net.outputs ++ output_of q.place low c.output.result.width ∷ [] }) c.bits_below-low.ensures.value
          ∙ ap (λ (f : Format). record q.net { outputs = q.net.outputs ++ output_of q.place (bits_below p) f.width ∷ [] }) c.output.ensures.value
          ∙ ap (λ (r : Placed). record r.net { outputs = r.net.outputs ++ output_of r.place (bits_below p) (product_format p).width ∷ [] }) above;
    }

pub returns-clause-fits : goal.returns-clause-fits
returns-clause-fits c = fits_modes c.args.product.now c.requires c.output-2.new.self (returns-clause-net c)
