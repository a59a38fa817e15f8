use Rattle.std.proofs.Common.{◌≤◌, length, take}
use Rattle.opgen_graph.proofs.TargetLists.{Lists}
use Rattle.opgen_graph.proofs.odd_parts.odd_parts.Given as goal

abbrev pub invariant-constants : goal.invariant-constants
invariant-constants l = record {
  parts : Lists l.found.items (take l.constant-index l.constants);
  few : length l.found.items ≤ l.constant-index;
}
