use Rattle.std.proofs.Common.{◌≡◌, ℕ, ◌<◌, true, false, length, drop, get_or}
use Rattle.std.specs.Prelude.{max}
use Rattle.opgen_schedule.specs.Reads.{is_constant_at}
use Rattle.opgen_schedule.specs.Stage.{slot_at}
use Rattle.opgen_pipe.specs.Copies.{copy_read_by}
use Rattle.opgen_pipe.proofs.counts.copies.Given as goal

abbrev pub invariant-nodes : goal.invariant-nodes
invariant-nodes l = record {
  count : length l.counts.items ≡ length l.nodes;
  live : (j : ℕ) → j < length l.nodes → is_constant_at l.nodes j ≡ false
      → max (get_or l.counts.items j 0) (copy_read_by (slot_at l.slots) l.place j (drop l.place l.nodes))
      ≡ copy_read_by (slot_at l.slots) 0 j l.nodes;
  still : (j : ℕ) → is_constant_at l.nodes j ≡ true → get_or l.counts.items j 0 ≡ 0;
}
