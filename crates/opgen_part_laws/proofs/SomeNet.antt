-- That numbers have no least graph, or several constants no net, is impossible.
use Rattle.std.proofs.Common.{refl}
use Rattle.opgen_operator.specs.declared.operator.Operator.TheVariants.{Mcm}
use Rattle.opgen_operator.proofs.Accepted.{accepted_ranges}
use Rattle.opgen_graph.specs.Recipe.{net_of_graph}
use Rattle.opgen_graph.proofs.Fits.{fits_modes}
use Rattle.opgen_search.specs.Recipe.{SomeLeastGraph}
use Rattle.opgen_search.proofs.Serving.{least_serves, set_reaches}
use Rattle.opgen_part_laws.specs.SearchedNets.{SomeNet}
use Rattle.opgen_part_laws.proofs.SomeAdderSet.{some_adder_set}
use Rattle.opgen_part_laws.proofs.SomeRanks.{some_ranks}

pub some_least_graph : SomeLeastGraph
some_least_graph numbers width extra small found =
    some_adder_set numbers width extra small (
    λ set is. some_ranks set (set_reaches numbers width extra small set is).reachable (
    λ adders ranks. found (record {
      set = set;
      graph = record { adders = adders };
      is = record { adders = is; ranks = ranks };
      serves = least_serves numbers width extra small set (record { adders = adders }) (record { adders = is; ranks = ranks });
    })))

pub several_net : SomeNet
several_net m accepted searched found =
    some_least_graph m.constants m.input.width m.extra ((accepted_ranges (Mcm m) accepted).searched searched).constants (
    λ least. found (record {
      net = net_of_graph least.graph m;
      is = record { set = least.set; graph = least.graph; least = least.is; by = refl };
      fits = fits_modes m accepted least.graph least.serves;
    }))
