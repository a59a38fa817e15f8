use Rattle.std.proofs.Common.{◌≤◌, arith, sym, subst}
use Rattle.opgen_operator.specs.declared.operator.Operator.TheVariants.{Mcm}
use Rattle.opgen_ports.specs.OddParts.{odd_part_count}
use Rattle.opgen_operator.proofs.Accepted.{accepted_ranges}
use Rattle.opgen_graph.proofs.PartLists.{count-within}
use Rattle.opgen_top.proofs.adder_graph.graph_of_several.Goals as goal

pub least_graph-requires-clause-few : goal.least_graph-requires-clause-few
least_graph-requires-clause-few g c κs within =
    let m = c.args.several.now in
    let ranges = accepted_ranges (Mcm m) c.requires.several in
    subst (λ ts. odd_part_count ts ≤ 8) (sym c.as_slice-constants.ensures) (omega (arith, count-within m.constants, ranges.few))
