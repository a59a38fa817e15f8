use Rattle.std.proofs.Common.{ℕ, ◌≤◌, ◌<◌, List, [], length, get_or, take, Contains}
use Rattle.std.specs.Prelude.{ℤ}
use Rattle.opgen_shared.specs.Digits.{AreForms, digit_adders}
use Rattle.opgen_shared.specs.Rule.{GrowsBy}
use Rattle.opgen_shared.specs.Sums.{AreSums, placed_by}
use Rattle.opgen_shared.proofs.graph.shared_graph.Given as goal

abbrev pub invariant-parts : goal.invariant-parts
invariant-parts l = record {
  sums : AreSums l.sums.adders l.sums.levels.items;
  grows : GrowsBy [] (take l.part-index l.part-items) l.sums.adders;
  made : (k : ℕ) → k < l.part-index → Contains (placed_by l.sums.adders) (get_or l.part-items k 0);
  few : (form : ℕ → List ℤ) → AreForms form → length l.sums.adders ≤ digit_adders form (take l.part-index l.part-items);
}
