use Rattle.std.proofs.Common.{◌≡◌, ap, ◌∙◌, rules}
use Rattle.std.specs.Prelude.{min, ◌-◌}
use Rattle.opgen_heap.specs.Sum.{heap_sum}
use Rattle.opgen_heap.specs.Adding.{with_row}
use Rattle.opgen_heap.proofs.Sums.{with_row-sum, with_row-kept}
use Rattle.opgen_heap.proofs.heap.Heap.add_row.Goals as goal

pub returns-clause-ok : goal.returns-clause-ok
returns-clause-ok c =
    let h = c.args.self.now in
    let count : c.loop-index.index ≡ min c.args.width (h.width - c.args.weight) = search rules in
    c.loop-index.invariant ∙ ap (λ k. with_row h c.args.node k c.args.weight) count ∙ with_row-kept h c.args.node c.args.width c.args.weight

pub returns-clause-sum : goal.returns-clause-sum
returns-clause-sum c = λ words.
    let h = c.args.self.now in
    let count : c.loop-index.index ≡ min c.args.width (h.width - c.args.weight) = search rules in
    let is = c.loop-index.invariant ∙ ap (λ k. with_row h c.args.node k c.args.weight) count
    ∙ with_row-kept h c.args.node c.args.width c.args.weight in
    ap (heap_sum words) is ∙ with_row-sum words h c.args.node c.args.width c.args.weight
