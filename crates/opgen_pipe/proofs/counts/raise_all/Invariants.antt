use Rattle.std.proofs.Common.{◌≡◌, ℕ, ◌<◌, true, false, length, drop, get_or}
use Rattle.std.specs.Prelude.{max}
use Rattle.opgen_schedule.specs.Reads.{is_constant_at}
use Rattle.opgen_schedule.specs.Stage.{slot_at}
use Rattle.opgen_pipe.specs.Copies.{copy_read}
use Rattle.opgen_pipe.proofs.counts.raise_all.Given as goal

abbrev pub invariant-reads : goal.invariant-reads
invariant-reads l = record {
  live : (j : ℕ) → j < length l.nodes → is_constant_at l.nodes j ≡ false
      → max (get_or l.counts j 0) (copy_read (slot_at l.slots) l.cycle j (drop l.read-index l.reads))
      ≡ max (get_or l.initial.counts j 0) (copy_read (slot_at l.slots) l.cycle j l.reads);
  still : (j : ℕ) → is_constant_at l.nodes j ≡ true → get_or l.counts j 0 ≡ get_or l.initial.counts j 0;
}
