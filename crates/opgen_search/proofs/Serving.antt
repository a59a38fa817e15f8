-- The graph of a least set of adders serves its numbers.
use Rattle.std.proofs.Common.{ℕ, List}
use Rattle.std.specs.Prelude.{ℤ, All}
use Rattle.opgen_ports.specs.Ranges.{IsWithin}
use Rattle.opgen_graph.specs.declared.ranks.Graph.{Graph}
use Rattle.opgen_graph.specs.Reach.{Reaches}
use Rattle.opgen_graph.specs.Served.{Serves}
use Rattle.opgen_graph.specs.Targets.{AreTargetsOf}
use Rattle.opgen_graph.proofs.Serving.{reached_serve}
use Rattle.opgen_graph.proofs.TargetLists.{each_target}
use Rattle.opgen_search.specs.Recipe.{IsAdderSetOf, IsLeastGraphOf}
use Rattle.opgen_search.specs.Space.{AreTargets}
use Rattle.opgen_search.proofs.Closing.{space_reaches}

-- the odd parts above 1 of small numbers are targets
pub targets_of : (numbers : List ℤ) → All (IsWithin 2047) numbers → (targets : List ℕ) → AreTargetsOf numbers targets → AreTargets targets
targets_of numbers small targets are = record { increasing = are.increasing; each = each_target numbers targets small are }

module _ (numbers : List ℤ) (width extra : ℕ) (small : All (IsWithin 2047) numbers) (set : List ℕ) where
  pub set_reaches : (is : IsAdderSetOf numbers width extra set) → Reaches is.targets set
  set_reaches is = space_reaches is.targets extra set (targets_of numbers small is.targets is.parts) is.least.member

  pub least_serves : (graph : Graph) → IsLeastGraphOf numbers width extra set graph → Serves numbers graph
  least_serves graph is =
      reached_serve numbers is.adders.targets set graph is.adders.parts (set_reaches is.adders) is.ranks
