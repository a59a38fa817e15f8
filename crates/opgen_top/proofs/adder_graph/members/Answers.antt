use Rattle.std.proofs.Common.{◌↔◌, ℕ, Contains, List, sym, subst}
use Rattle.std.specs.List.Sorted.{IsStrictlyIncreasing}
use Rattle.std.proofs.lemmas.List.Filters.{dedup_is}
use Rattle.std.proofs.lemmas.Map.Keys.{IsStrictlyIncreasing-dedup}
use Rattle.opgen_top.proofs.AdderValues.{sorted_members}
use Rattle.opgen_top.proofs.adder_graph.members.Goals as goal

pub returns-clause-increasing : goal.returns-clause-increasing
returns-clause-increasing c =
    subst IsStrictlyIncreasing (sym (dedup_is _ _ _ c.dedup.ensures.filtered)) (IsStrictlyIncreasing-dedup _ c.sort_unstable.ensures.sorted)

pub returns-clause-members : goal.returns-clause-members
returns-clause-members c =
    subst (λ (found : List ℕ). (x : ℕ) → Contains c.dedup.new.self.items x ↔ Contains found x) c.in_ok-set.ensures
    (subst (λ (set : List ℕ). (x : ℕ) → Contains set x ↔ Contains c.in_ok-set.set.items x) (sym (dedup_is _ _ _ c.dedup.ensures.filtered))
    (sorted_members c.in_ok-set.set.items _ c.sort_unstable.ensures.permutation))
