use Rattle.std.proofs.Common.{◌≡◌, ◌+◌, ◌∷◌, drop, sym, ap, ◌∙◌, subst}
use Rattle.std.specs.Prelude.{All}
use Rattle.std.proofs.lemmas.List.{drop_more}
use Rattle.std.proofs.lemmas.List.Elements.{All-head, All-tail}
use Rattle.opgen_heap.specs.Adding.{with_row}
use Rattle.opgen_net.specs.Valid.{widths}
use Rattle.opgen_net.specs.WordRule.{IsThere}
use Rattle.opgen_gpc.specs.Kept.{TakesSix, CountersThere}
use Rattle.opgen_gpc.specs.Recipe.{Counting, with_counter, with_counters}
use Rattle.opgen_gpc.proofs.Counting.{next_counting, counters-still_there}
use Rattle.opgen_gpc.proofs.Tables.{HasCounter, counter-placed}
use Rattle.opgen_gpc.proofs.heaps.add_tables.Goals as goal

pub add_table-requires-clause-takes : goal.add_table-requires-clause-takes
add_table-requires-clause-takes c =
    let P = TakesSix (IsThere (widths c.counters.net.nodes)) in
    let cs = c.args.counters.now in
    let i = c.counters.counter-index in
    let split = drop_more cs i c.counter-item.result c.counters-test.true ∙ ap (λ x. x ∷ drop (i + 1) cs) (sym c.counter-item.is) in
    All-head P c.counter-item.result (drop (i + 1) cs) (subst (All P) split c.counters.invariant.1)

pub counters-preserved : goal.counters-preserved
counters-preserved c =
    let net = c.counters.net in
    let heap = c.counters.heap in
    let P = TakesSix (IsThere (widths net.nodes)) in
    let cs = c.args.counters.now in
    let i = c.counters.counter-index in
    let counter = c.counter-item.result in
    let rest = drop (i + 1) cs in
    let split = drop_more cs i counter c.counters-test.true ∙ ap (λ x. x ∷ rest) (sym c.counter-item.is) in
    let here : All P (counter ∷ rest) = subst (All P) split c.counters.invariant.1 in
    let s : Counting = record { net = net; heap = heap } in
    let p = with_counter net counter in
    let has : HasCounter net counter p = counter-placed net counter c.counters.invariant.2 (All-head P counter rest here) in
    let now : Counting = record { net = c.add_table.new.net; heap = c.add_row.new.self } in
    let next : now ≡ next_counting s counter =
    ap (λ h. record { net = c.add_table.new.net; heap = h }) c.in_ok-add_row.ensures.ok
    ∙ ap (λ n. record { net = n; heap = with_row heap c.in_ok-table.table 3 counter.column }) c.in_ok-table.ensures.ok
    ∙ ap (λ k. record { net = p.net; heap = with_row heap k 3 counter.column }) c.in_ok-table.ensures.place in (
      ap (λ (u : Counting). with_counters u rest) next ∙ ap (with_counters s) (sym split) ∙ c.counters.invariant.0,
      subst (λ n. CountersThere n rest) (sym c.in_ok-table.ensures.ok)
          (counters-still_there net p.net has.later.grown rest (All-tail P counter rest here)),
      c.add_table.ensures.valid,
    )
