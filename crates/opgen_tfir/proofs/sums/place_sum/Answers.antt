use Rattle.std.proofs.Common.{◌≡◌, sym, ap, ◌∙◌, rules}
use Rattle.std.specs.Prelude.{slice_index}
use Rattle.opgen_net.specs.Placed.{Placed}
use Rattle.opgen_net.specs.Valid.{widths}
use Rattle.opgen_tfir.specs.Recipe.{sum_width as sum_width_of, with_taps}
use Rattle.opgen_tfir.proofs.Chains.{taps-placed}
use Rattle.opgen_tfir.proofs.Steps.{placed-is}
use Rattle.opgen_tfir.proofs.sums.place_sum.Goals as goal

pub widened-requires-clause-node : goal.widened-requires-clause-node
widened-requires-clause-node c =
    let a = c.args in
    let p = a.products.now in
    let z = with_taps p a.net.now a.taps.now in
    let from : c.sum_width-from.result ≡ sum_width_of p a.taps.now = search rules in
    let same = placed-is c.place_taps.new.net z.net c.in_ok-sum.sum z.place c.in_ok-sum.ensures.ok c.in_ok-sum.ensures.place in
    ap (λ (q : Placed). slice_index (widths q.net.nodes) q.place) same
    ∙ (taps-placed p c.requires.products.widths a.net.now c.requires.net c.requires.products.nodes a.taps.now c.requires.taps c.requires.some).width
    ∙ sym from
