use Rattle.std.proofs.Common.{◌≡◌, ℕ, ◌≤◌, length, drop}
use Rattle.opgen_schedule.specs.Stage.{slot_at, slots_on, stage}
use Rattle.opgen_schedule.proofs.schedule.stage.Given as goal

abbrev pub invariant-nodes : goal.invariant-nodes
invariant-nodes l = record {
  count : length l.slots.items ≡ l.place;
  early : (j : ℕ) → (slot_at l.slots.items j).cycle ≤ length l.slots.items;
  rest : slots_on l.delays l.setup l.period l.slots.items (drop l.place l.nodes) ≡ stage l.delays l.setup l.period l.nodes;
}
