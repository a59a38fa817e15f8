use Rattle.std.proofs.Common.{◌≡◌, ◌+◌, ◌-◌, length, List, [], ◌∷◌, ◌++◌, sym, ap, ◌∙◌, refl, arith}
use Rattle.std.specs.Prelude.{slice_set, slice_index_or, replicate}
use Rattle.std.proofs.lemmas.List.{get_or_read, length-append, length-replicate}
use Rattle.opgen_net.specs.declared.word_bits.WordBit.{WordBit}
use Rattle.opgen_heap.proofs.Columns.{with_bit-set}
use Rattle.opgen_heap.proofs.heap.append_at.Goals as goal

pub returns-clause-ok : goal.returns-clause-ok
returns-clause-ok c =
    let cs = c.args.columns.now.items in
    let longer = c.lengthen.new.columns.items in
    let k = c.args.place in
    let b = c.args.bit in
    let there : slice_index_or longer k [] ≡ c.index_mut.result.now =
    sym (get_or_read longer k c.index_mut.result.now
    (omega (
      arith,
      ap length c.in_ok-lengthen.ensures.ok,
      length-append cs (replicate (k + 1 - length cs) []),
      length-replicate {A = List WordBit} (k + 1 - length cs) [],
    )) c.index_mut.ensures.value []) in
    ap (λ x. slice_set longer k x) (c.in_ok-push.ensures.ok ∙ ap (λ x. x ++ b ∷ []) (sym there))
    ∙ ap (λ xs. slice_set xs k (slice_index_or xs k [] ++ b ∷ [])) c.in_ok-lengthen.ensures.ok
    ∙ with_bit-set cs k b (k + 1 - length cs) refl
