use Rattle.std.proofs.Common.{length, get_or, sym, subst, rules}
use Rattle.std.specs.List.Sorted.{IsPermutation, IsNonDecreasingBy}
use Rattle.std.proofs.lemmas.List.Sorted.{IsNonDecreasingBy-from_sort_by_key}
use Rattle.opgen_design.specs.Order.{AreRanks}
use Rattle.opgen_design.specs.Rules.{AreGroups}
use Rattle.opgen_design.proofs.OrderLaws.{off-cycles, is-order}
use Rattle.opgen_design.proofs.design.Design.order.Goals as goal

pub returns : goal.returns
returns c =
    let d = c.args.self.now in
    let ranks = c.as_slice-ranks.result.now in
    let order = c.sort_by_key.new.self.items in
    let groups : AreGroups d c.deref-2.result.now = subst (AreGroups d) (sym c.deref-2.ensures.value) c.in_ok-groups.ensures in
    let h : AreRanks d c.deref-2.result.now (length d.drivers) ranks = subst (AreRanks d c.deref-2.result.now (length d.drivers))
    (sym c.as_slice-ranks.ensures.value) c.in_ok-ranks.ensures in
    let perm = subst (λ xs. IsPermutation xs order) c.in_ok-order.ensures c.in_ok-sort_by_key.ensures.permutation in
    let up : IsNonDecreasingBy (λ i. get_or ranks i 0) order = IsNonDecreasingBy-from_sort_by_key
    (λ i. get_or ranks i 0) order c.in_ok-sort_by_key.ensures.sorted (λ a r q k. search rules) in
    is-order d c.deref-2.result.now groups (off-cycles d c.requires.sound.ordered) ranks h order perm up
