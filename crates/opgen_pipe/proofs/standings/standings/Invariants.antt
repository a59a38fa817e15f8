use Rattle.std.proofs.Common.{◌≡◌, ◌++◌, drop}
use Rattle.opgen_net.specs.Made.{each_node}
use Rattle.opgen_schedule.specs.Stage.{slot_at}
use Rattle.opgen_pipe.specs.Copies.{copies, signals_before}
use Rattle.opgen_pipe.specs.Standings.{standing_of, standings}
use Rattle.opgen_pipe.proofs.standings.standings.Given as goal

abbrev pub invariant-nodes : goal.invariant-nodes
invariant-nodes l = record {
  made : l.standings.items ++ each_node (standing_of l.net (slot_at l.slots)) l.place (drop l.place l.nodes)
      ≡ standings l.net (slot_at l.slots);
  next : l.next ≡ signals_before (copies l.net (slot_at l.slots)) l.place;
}
