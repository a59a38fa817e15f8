use Rattle.std.proofs.Common.{◌≡◌, length, [], ◌∷◌, ◌++◌, ap, ◌∙◌, arith}
use Rattle.std.proofs.lemmas.List.{length-append, take-append-le}
use Rattle.opgen_heap.proofs.Columns.{one_column}
use Rattle.opgen_heap.proofs.heap.lengthen.Goals as goal

pub loop-columns-preserved : goal.loop-columns-preserved
loop-columns-preserved c =
    let cs = c.loop-columns.columns.items in
    let i = c.loop-columns.invariant in
    let e : c.push.new.self.items ≡ cs ++ [] ∷ [] = c.in_ok-push.ensures.items ∙ ap (λ x. cs ++ x ∷ []) c.new-column.ensures in
    rw e (
      omega (arith, i.0, length-append cs ([] ∷ [])),
      take-append-le (length c.args.columns.now.items) cs ([] ∷ []) i.0 ∙ i.1,
      one_column cs c.args.count (length (cs ++ [] ∷ [])) (length-append cs ([] ∷ []))
          (omega (arith, length-append cs ([] ∷ []), c.loop-columns-test.true, c.len.ensures)) ∙ i.2,
    )
