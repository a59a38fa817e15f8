-- The graphs of sets that reach the targets of constants.
use Rattle.std.proofs.Common.{ℕ, arith}
use Rattle.std.proofs.lemmas.List.Elements.{All-weaker}
use Rattle.std.proofs.lemmas.List.Sorted.{All-permutation, Contains-permutation}
use Rattle.opgen_graph.specs.Graphs.{values}
use Rattle.opgen_graph.specs.Reach.{IsMember, IsWideMember}
use Rattle.opgen_graph.specs.Served.{ReachedSetsServe}
use Rattle.opgen_graph.proofs.Reaching.{ranks_are_graphs}

wider : (x : ℕ) → IsMember x → IsWideMember x
wider x h = (h.0, h.1, omega (arith, h.2))

pub reached_serve : ReachedSetsServe
reached_serve numbers targets set graph are reaches ranks =
    let of = ranks_are_graphs set graph.adders ranks in
    record {
      wired = of.wired;
      members = All-weaker IsMember IsWideMember wider (values graph.adders)
          (All-permutation IsMember set (values graph.adders) of.members reaches.adders.members);
      has_parts = λ x h.
          Contains-permutation set (values graph.adders) x of.members (reaches.has_targets x ((are.members x).1 h));
    }
