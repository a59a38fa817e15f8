-- The set of adders and the net of several constants.
use Rattle.std.proofs.Common.{◌≡◌, sym, ap, subst, ◌∙◌}
use Rattle.opgen_graph.specs.Graphs.{IsRanks}
use Rattle.opgen_graph.specs.Recipe.{net_of_graph}
use Rattle.opgen_graph.proofs.SignedSets.{one_targets}
use Rattle.opgen_part_laws.proofs.OneGraph.{one_graph}
use Rattle.opgen_search.specs.Least.{IsLeast}
use Rattle.opgen_search.specs.Recipe.{OneAdderSet, OneLeastGraph, OneNet}
use Rattle.opgen_search.proofs.Order.{neither_before}

pub one_set : OneAdderSet
one_set numbers width extra set other a b =
    let e = one_targets numbers a.targets b.targets a.parts b.parts in
    let l : IsLeast b.targets width extra set = subst (λ xs. IsLeast xs width extra set) e a.least in
    neither_before width set other (b.least.least set l.member) (l.least other b.least.member)

pub one_least_graph : OneLeastGraph
one_least_graph numbers width extra set other graph another a b =
    let e = one_set numbers width extra set other a.adders b.adders in
    let same : graph.adders ≡ another.adders =
    one_graph other graph.adders another.adders (subst (λ s. IsRanks s graph.adders) e a.ranks) b.ranks in
    ap (λ adders. record { adders = adders }) same

pub one_net : OneNet
one_net several net other a b =
    let same = one_least_graph several.constants several.input.width several.extra a.set b.set a.graph b.graph a.least b.least in
    a.by ∙ ap (λ graph. net_of_graph graph several) same ∙ sym b.by
