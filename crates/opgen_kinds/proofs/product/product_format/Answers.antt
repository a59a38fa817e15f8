use Rattle.std.proofs.Common.{◌≡◌, ◌∙◌, sym, ap, nat_lt, rules}
use Rattle.opgen_ports.specs.declared.reach.Reach.{Reach}
use Rattle.opgen_kinds.specs.Product.{product_places}
use Rattle.opgen_kinds.proofs.of_kind.ProductWidths.{product-sign}
use Rattle.opgen_kinds.proofs.product.product_format.Goals as goal

pub returns : goal.returns
returns c =
    let p = c.args.product.now in
    let below : nat_lt 0 c.product_reach.result.below
    ≡ nat_lt 0 (product_places p).below = ap (λ (r : Reach). nat_lt 0 r.below) c.product_reach.ensures.value ∙ sym (product-sign p) in
    rw (below, c.product_width.ensures.value) (search rules)
