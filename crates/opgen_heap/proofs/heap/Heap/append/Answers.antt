use Rattle.std.proofs.Common.{◌≡◌, length, sym, ap, ◌∙◌, arith, rules}
use Rattle.opgen_heap.specs.Sum.{heap_sum}
use Rattle.opgen_heap.specs.Adding.{with_bit}
use Rattle.opgen_heap.proofs.Sums.{with_bit-sum, with_bit-past}
use Rattle.opgen_heap.proofs.Columns.{length-with_bit_at}
use Rattle.opgen_heap.proofs.heap.Heap.append.Goals as goal

pub returns-then-weight-self-clause-sum : goal.returns-then-weight-self-clause-sum
returns-then-weight-self-clause-sum c = λ words.
    let b = c.args.bit in
    let past = with_bit-past c.args.self.now b c.args.weight (omega (arith, c.if-weight-self.true, ap (λ h. h.width) c.self.view_is)) in
    ap (heap_sum words) (sym past) ∙ with_bit-sum words c.args.self.now b c.args.weight

pub invariant_of-self : goal.invariant_of-self
invariant_of-self c =
    let cs = c.self.inside.columns.items in
    let w = c.self.inside.width in
    let longer = length-with_bit_at cs c.args.weight c.args.bit w c.self.invariant.2
    (omega (arith, c.if-weight-self.false)) in
    (c.self.invariant.0, c.self.invariant.1, omega (arith, ap length c.in-Ok.ensures.ok, longer))

pub returns-in-Ok-clause-sum : goal.returns-in-Ok-clause-sum
returns-in-Ok-clause-sum c = λ words.
    let b = c.args.bit in
    let e : _ ≡ with_bit c.args.self.now b c.args.weight = search rules in
    ap (heap_sum words) e ∙ with_bit-sum words c.args.self.now b c.args.weight
