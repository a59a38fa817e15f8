use Rattle.std.proofs.Common.{◌≡◌, drop, length}
use Rattle.opgen_cuts.specs.Needed.{needed}
use Rattle.opgen_cuts.specs.Recipe.{cutting_of, with_copies}
use Rattle.opgen_cuts.proofs.State.{IsCut}
use Rattle.opgen_cuts.proofs.cut.cutting_of.Given as goal

-- the nodes that are left lead to the whole
abbrev pub invariant-nodes : goal.invariant-nodes
invariant-nodes l = record {
  left : with_copies l.most (needed l.net) (drop l.place l.net.nodes) l.cutting ≡ cutting_of l.most l.net;
  state : IsCut l.net l.most l.place l.cutting;
  end : l.place-end ≡ length l.net.nodes;
}
