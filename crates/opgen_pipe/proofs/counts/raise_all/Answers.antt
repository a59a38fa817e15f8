use Rattle.std.proofs.Common.{◌≡◌, ◌+◌, ◌-◌, ◌<◌, ℕ, List, length, drop, get_or, ap, ◌∙◌, arith}
use Rattle.std.specs.Prelude.{max, nat_eq, if◌then◌else◌}
use Rattle.std.proofs.lemmas.List.{drop_all, drop_more}
use Rattle.opgen_schedule.specs.Schedule.{Schedule}
use Rattle.opgen_schedule.specs.Stage.{slot_at}
use Rattle.opgen_pipe.specs.Copies.{copy_read}
use Rattle.opgen_pipe.proofs.counts.raise_all.Goals as goal

-- a node that is read is counted with those after it
next-count : (s : Schedule) (cycle j : ℕ) (reads : List ℕ) (i old new : ℕ) → i < length reads
    → new ≡ max old (if nat_eq (get_or reads i 0) j then cycle - (s j).cycle else 0)
    → max new (copy_read s cycle j (drop (i + 1) reads)) ≡ max old (copy_read s cycle j (drop i reads))
next-count s cycle j reads i old new l is = omega (arith, is, ap (copy_read s cycle j) (drop_more reads i 0 l))

pub reads-preserved : goal.reads-preserved
reads-preserved c = record {
  live = λ j l h.
      next-count (slot_at c.args.slots.now) c.args.cycle j c.args.reads.now c.reads.read-index (get_or c.reads.counts j 0)
      (get_or c.raise.new.counts j 0) c.reads-test.true (c.raise.ensures.live j l h)
      ∙ c.reads.invariant.live j l h;
  still = λ j h. c.raise.ensures.still j h ∙ c.reads.invariant.still j h;
}

pub returns-clause-live : goal.returns-clause-live
returns-clause-live c = λ j l h.
    omega (
      arith,
      c.reads.invariant.live j l h,
      ap (copy_read (slot_at c.args.slots.now) c.args.cycle j) (drop_all c.reads.read-index c.args.reads.now c.reads-test.false),
    )
